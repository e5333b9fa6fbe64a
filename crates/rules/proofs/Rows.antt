-- What the rules of a table say of each of its rows.
use Rattle.std.proofs.Common.{◌≡◌, ℕ, zero, suc, ◌-◌, ◌*◌, ◌/◌, ◌<◌, ◌≤◌, Bool, true, false, cond, not, eqb, ltb, List, [], ◌∷◌, get_or, Some, None, Option, sym, refl, subst, arith}
use Rattle.std.proofs.lemmas.Bool.{and_parts, or_parts, ltb-false, eqb-true, eqb-false, false≢true}
use Rattle.periods.specs.Periods.{cycle, periods, no_entry, period_of}
use Rattle.periods.proofs.Divisors.{positive, tiles, within_cycle}
use Rattle.sheet.specs.declared.row.Row.{Row}
use Rattle.sheet.specs.declared.fault.Rule.{Rule}
use Rattle.sheet.specs.declared.fault.Rule.TheVariants.{Text, Code, Deadline, Phase, Execution, Hold}
use Rattle.sheet.specs.Rows.{blank, lawful_label, bad_deadline, bad_execution, broken, intact, lawful_row, lawful_after}
use Rattle.verdict.specs.Test.{row_at}

-- the ranges of a row
pub record Ranges (r : Row) : Type 0 where
  pub some_period : 0 < r.period
  pub tiles : r.period * (cycle / r.period) ≡ cycle
  pub period_within : r.period ≤ cycle
  pub some_deadline : 1 ≤ r.deadline
  pub deadline_within : r.deadline ≤ 4 * r.period
  pub some_execution : 1 ≤ r.execution
  pub execution_period : r.execution ≤ r.period

-- a rule that comes before others is kept, and so are those
kept_first : (b : Bool) (why : Rule) (o : Option Rule) → intact (cond b (Some why) o) ≡ true → (b ≡ false) × (intact o ≡ true)
kept_first true why o h = absurd (false≢true h)
kept_first false why o h = (refl, h)

module _ (before : ℕ) (r : Row) (lawful : lawful_row before r ≡ true) where
  parts : (intact (broken before r) ≡ true) × (eqb r.period (period_of r.code) ≡ true)
  parts = and_parts (intact (broken before r)) (eqb r.period (period_of r.code)) lawful

  abbrev from_hold : Option Rule
  from_hold = cond (ltb r.execution r.hold) (Some Hold) None

  abbrev from_execution : Option Rule
  from_execution = cond (bad_execution r) (Some Execution) from_hold

  abbrev from_phase : Option Rule
  from_phase = cond (ltb cycle r.phase) (Some Phase) from_execution

  abbrev from_deadline : Option Rule
  from_deadline = cond (bad_deadline before r) (Some Deadline) from_phase

  abbrev from_code : Option Rule
  from_code = cond (no_entry r.code) (Some Code) from_deadline

  code_kept : (no_entry r.code ≡ false) × (intact from_deadline ≡ true)
  code_kept = kept_first (no_entry r.code) Code from_deadline (kept_first (not (lawful_label r.label)) Text from_code parts.0).1

  deadline_kept : (bad_deadline before r ≡ false) × (intact from_phase ≡ true)
  deadline_kept = kept_first (bad_deadline before r) Deadline from_phase code_kept.1

  phase_kept : (ltb cycle r.phase ≡ false) × (intact from_execution ≡ true)
  phase_kept = kept_first (ltb cycle r.phase) Phase from_execution deadline_kept.1

  execution_kept : (bad_execution r ≡ false) × (intact from_hold ≡ true)
  execution_kept = kept_first (bad_execution r) Execution from_hold phase_kept.1

  code_low : 1 ≤ r.code
  code_low = omega (arith, eqb-false r.code 0 (or_parts (eqb r.code 0) (ltb 240 r.code) code_kept.0).0)

  code_high : r.code ≤ 240
  code_high = ltb-false 240 r.code (or_parts (eqb r.code 0) (ltb 240 r.code) code_kept.0).1

  named : period_of r.code ≡ r.period
  named = sym (eqb-true r.period (period_of r.code) parts.1)

  deadline_parts : (eqb r.deadline 0 ≡ false) × ((ltb (4 * r.period) r.deadline ≡ false) × (ltb r.deadline before ≡ false))
  deadline_parts =
      let p = or_parts (eqb r.deadline 0) _ deadline_kept.0 in
      (p.0, or_parts (ltb (4 * r.period) r.deadline) (ltb r.deadline before) p.1)

  execution_parts : (eqb r.execution 0 ≡ false) × ((ltb r.period r.execution ≡ false) × (ltb r.deadline r.execution ≡ false))
  execution_parts =
      let p = or_parts (eqb r.execution 0) _ execution_kept.0 in
      (p.0, or_parts (ltb r.period r.execution) (ltb r.deadline r.execution) p.1)

  pub row_ranges : Ranges r
  row_ranges = record {
    some_period = subst (λ (p : ℕ). 0 < p) named (positive r.code code_low code_high);
    tiles = subst (λ (p : ℕ). p * (cycle / p) ≡ cycle) named (tiles r.code code_low code_high);
    period_within = subst (λ (p : ℕ). p ≤ cycle) named (within_cycle r.code code_low code_high);
    some_deadline = omega (arith, eqb-false r.deadline 0 deadline_parts.0);
    deadline_within = ltb-false (4 * r.period) r.deadline deadline_parts.1.0;
    some_execution = omega (arith, eqb-false r.execution 0 execution_parts.0);
    execution_period = ltb-false r.period r.execution execution_parts.1.0;
  }

  -- its deadline is not below the one before
  pub not_below : before ≤ r.deadline
  not_below = ltb-false r.deadline before deadline_parts.1.1

pub blank_ranges : Ranges blank
unfolding periods
blank_ranges = row_ranges 0 blank refl

-- the first of lawful rows is lawful, and so are the rest
pub first_lawful : (before : ℕ) (r : Row) (rs : List Row) → lawful_after before (r ∷ rs) ≡ true → lawful_row before r ≡ true
first_lawful before r rs h = (and_parts (lawful_row before r) (lawful_after r.deadline rs) h).0

pub rest_lawful : (before : ℕ) (r : Row) (rs : List Row) → lawful_after before (r ∷ rs) ≡ true → lawful_after r.deadline rs ≡ true
rest_lawful before r rs h = (and_parts (lawful_row before r) (lawful_after r.deadline rs) h).1

ranges_from : (before : ℕ) (rows : List Row) → lawful_after before rows ≡ true → (k : ℕ) → Ranges (get_or rows k blank)
ranges_from before [] h k = blank_ranges
ranges_from before (r ∷ rs) h zero = row_ranges before r (first_lawful before r rs h)
ranges_from before (r ∷ rs) h (suc k) = ranges_from r.deadline rs (rest_lawful before r rs h) k

-- the ranges of every row, in the table or past it
pub ranges_at : (rows : List Row) → lawful_after 0 rows ≡ true → (i : ℕ) → Ranges (row_at i rows)
ranges_at rows h i = ranges_from 0 rows h (i - 1)
