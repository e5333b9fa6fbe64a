-- Demand: what the jobs of a table can ask within a window of time.
use Rattle.std.specs.Prelude.{◌≡◌, ℕ, ◌+◌, ◌-◌, ◌*◌, ◌/◌, ◌<◌, ◌≤◌, max, cond, List, [], ◌∷◌, None, sum_by, nat_le}
use Rattle.sheet.specs.declared.row.Row.{Row}
use Rattle.sheet.specs.declared.table.Table.{Table}
use Rattle.sheet.specs.Rows.{units}
use Rattle.sheet.specs.Tables.{rows_of}
use Rattle.verdict.specs.declared.answer.Verdict.TheVariants.{Admitted}
use Rattle.verdict.specs.Test.{verdict_of}
use Rattle.rules.specs.declared.call.Call.{Call}
use Rattle.rules.specs.Run.{after_run}

-- how many jobs of a row can be both released and due within a window of length l: one at D, and one more each period
abbrev pub jobs_within : Row → ℕ → ℕ
jobs_within r l = cond (nat_le r.deadline l) (1 + (l - r.deadline) / r.period) 0

-- the units of those jobs
abbrev pub demand : Row → ℕ → ℕ
demand r l = units r * jobs_within r l

-- the demand of all rows within a window of length l
abbrev pub need : List Row → ℕ → ℕ
need rows l = sum_by (λ r. demand r l) rows

-- the greatest hold of the rows whose deadline is past l: for so long a job due later can keep the processor
abbrev pub blocking : List Row → ℕ → ℕ
blocking [] l = 0
blocking (r ∷ rs) l = max (cond (nat_le r.deadline l) 0 r.hold) (blocking rs l)

-- bounded demand: a window shorter than m in which anything is asked has room for all of it and for a hold besides
abbrev pub Bounded : ℕ → List Row → Type 0
Bounded m rows = (l : ℕ) → l < m → 0 < need rows l → need rows l + blocking rows l ≤ l

-- Devi's test bounds the demand of an admitted table in windows of every length
abbrev pub DeviBounds : Type 0
DeviBounds = (t : Table) → verdict_of (rows_of t) ≡ Admitted → (m : ℕ) → Bounded m (rows_of t)

-- a table whose demand is bounded in windows shorter than m misses no deadline before m
abbrev pub BoundedIsPunctual : Type 0
BoundedIsPunctual =
    (t : Table) (m : ℕ) → Bounded m (rows_of t) → (calls : List Call) → (after_run (rows_of t) calls).clock < m
    → (after_run (rows_of t) calls).miss ≡ None
