-- The demand of a row: it grows with the window, and falls by a job's units with each release.
use Rattle.std.proofs.Common.{◌≡◌, ℕ, zero, suc, ◌+◌, ◌-◌, ◌*◌, ◌/◌, ◌<◌, ◌≤◌, max, Bool, true, false, cond, leb, List, [], ◌∷◌, get_or, refl, mul-le-mul_left, le-div_iff_mul-le, div-mul-le_self, arith}
use native.Mathlib.Nat.{div-eq-sub-div}
use Rattle.std.proofs.lemmas.Bool.{leb-true, leb-false}
use Rattle.sheet.specs.declared.row.Row.{Row}
use Rattle.sheet.specs.Rows.{blank, units}
use Rattle.verdict.specs.Test.{row_at}
use Rattle.rules.specs.Demand.{jobs_within, demand, blocking}
use Rattle.rules.proofs.Rows.{Ranges}

div_mono : (a b p : ℕ) → 0 < p → a ≤ b → a / p ≤ b / p
div_mono a b p h k = (le-div_iff_mul-le h).1 (omega (arith, div-mul-le_self a p))

-- a longer window asks no less
pub jobs_mono : (r : Row) (l m : ℕ) → 0 < r.period → l ≤ m → jobs_within r l ≤ jobs_within r m
jobs_mono r l m p h = go (leb r.deadline l) (leb r.deadline m) refl refl
  where
    go : (a b : Bool) → leb r.deadline l ≡ a → leb r.deadline m ≡ b
        → cond a (1 + (l - r.deadline) / r.period) 0 ≤ cond b (1 + (m - r.deadline) / r.period) 0
    go true true x y = omega (arith, div_mono (l - r.deadline) (m - r.deadline) r.period p (omega arith))
    go true false x y = absurd (omega (arith, leb-true r.deadline l x, leb-false r.deadline m y))
    go false true x y = omega arith
    go false false x y = omega arith

pub demand_mono : (r : Row) (l m : ℕ) → 0 < r.period → l ≤ m → demand r l ≤ demand r m
demand_mono r l m p h = mul-le-mul_left (units r) (jobs_mono r l m p h)

-- 1 if a job released at the start of a window is due within it
abbrev one_due : Row → ℕ → ℕ
one_due r l = cond (leb r.deadline l) 1 0

-- the first job of a window, and those within what is left of it a period later
jobs_step : (r : Row) (l : ℕ) → Ranges r → one_due r l + jobs_within r (l - r.period) ≤ jobs_within r l
jobs_step r l fine = go (leb r.deadline l) (leb r.deadline (l - r.period)) refl refl
  where
    go : (a b : Bool) → leb r.deadline l ≡ a → leb r.deadline (l - r.period) ≡ b
        → cond a 1 0 + cond b (1 + (l - r.period - r.deadline) / r.period) 0 ≤ cond a (1 + (l - r.deadline) / r.period) 0
    go true true x y =
        let u : r.deadline ≤ l - r.period = leb-true r.deadline (l - r.period) y in
        let some : 1 ≤ r.deadline = fine.some_deadline in
        let v : l - r.period - r.deadline ≡ l - r.deadline - r.period = omega arith in
        let k : r.period ≤ l - r.deadline = omega arith in
        rw v (omega (arith, div-eq-sub-div fine.some_period k))
    go true false x y = omega arith
    go false true x y = absurd (omega (arith, leb-false r.deadline l x, leb-true r.deadline (l - r.period) y))
    go false false x y = omega arith

-- a job of the row that is released at t asks this by d
abbrev pub asked_by : Row → (d t : ℕ) → ℕ
asked_by r d t = cond (leb (t + r.deadline) d) (units r) 0

asked_due : (r : Row) (d t : ℕ) → asked_by r d t ≤ units r * one_due r (d - t)
asked_due r d t = go (leb (t + r.deadline) d) (leb r.deadline (d - t)) refl refl
  where
    go : (a b : Bool) → leb (t + r.deadline) d ≡ a → leb r.deadline (d - t) ≡ b → cond a (units r) 0 ≤ units r * cond b 1 0
    go true true x y = omega arith
    go true false x y = absurd (omega (arith, leb-true (t + r.deadline) d x, leb-false r.deadline (d - t) y))
    go false b x y = omega arith

-- a release at t that could come by then takes its units out of the demand to come, if the next cannot come within a period
pub release_takes : (r : Row) (d t earliest next : ℕ) → Ranges r → earliest ≤ t → t + r.period ≤ next
    → asked_by r d t + demand r (d - max next (t + 1)) ≤ demand r (d - max earliest t)
release_takes r d t earliest next fine e n =
    let a : d - max next (t + 1) ≤ d - t - r.period = omega arith in
    let b : max earliest t ≡ t = omega arith in
    let later : demand r (d - max next (t + 1)) ≤ demand r (d - t - r.period) = demand_mono r _ _ fine.some_period a in
    let step : units r * (one_due r (d - t) + jobs_within r (d - t - r.period)) ≤ units r * jobs_within r (d - t)
    = mul-le-mul_left (units r) (jobs_step r (d - t) fine) in
    rw b (omega (arith, asked_due r d t))

-- a row whose deadline is past l holds for no longer than the blocking
hold_from : (rows : List Row) (k l : ℕ) → l < (get_or rows k blank).deadline → (get_or rows k blank).hold ≤ blocking rows l
hold_from [] k l h = omega arith
hold_from (r ∷ rs) zero l h = go (leb r.deadline l) refl
  where
    go : (b : Bool) → leb r.deadline l ≡ b → r.hold ≤ max (cond b 0 r.hold) (blocking rs l)
    go true e = absurd (omega (arith, leb-true r.deadline l e))
    go false e = omega arith
hold_from (r ∷ rs) (suc k) l h = omega (arith, hold_from rs k l h)

pub hold_blocks : (rows : List Row) (i l : ℕ) → l < (row_at i rows).deadline → (row_at i rows).hold ≤ blocking rows l
hold_blocks rows i l h = hold_from rows (i - 1) l h
