-- When the jobs of a row are released and due: the closed forms, by their numbers.
use Rattle.std.proofs.Common.{◌≡◌, ℕ, suc, ◌+◌, ◌-◌, ◌*◌, ◌/◌, ◌<◌, ◌≤◌, Bool, true, false, cond, ltb, leb, refl, ⊎_elim, mul-le-mul_right, le-mul_of_pos_right, le-div_iff_mul-le, arith}
use Rattle.std.proofs.lemmas.Bool.{leb-true, leb-false, ltb-true, ltb-false, cases_lt}
use Rattle.sheet.specs.declared.row.Row.{Row}
use Rattle.rules.specs.Release.{next_release}
use Rattle.rules.specs.Deadlines.{deadlines_by, releases_before}

-- the job after n others is released before t just where n is below the releases before t
pub released_then : (r : Row) (n t : ℕ) → 0 < r.period → n < releases_before r t → next_release r n < t
released_then r n t pos = go (leb t r.phase) refl
  where
    go : (b : Bool) → leb t r.phase ≡ b → n < cond b 0 (1 + (t - r.phase - 1) / r.period) → r.phase + n * r.period < t
    go true e h = absurd (omega arith)
    go false e h =
        let a : n * r.period ≤ t - r.phase - 1 = (le-div_iff_mul-le {k = r.period} {x = n} {y = t - r.phase - 1} pos).0 (omega arith) in
        omega (arith, leb-false t r.phase e)

pub counted_then : (r : Row) (n t : ℕ) → 0 < r.period → next_release r n < t → n < releases_before r t
counted_then r n t pos h = go (leb t r.phase) refl
  where
    go : (b : Bool) → leb t r.phase ≡ b → n < cond b 0 (1 + (t - r.phase - 1) / r.period)
    go true e = absurd (omega (arith, leb-true t r.phase e))
    go false e =
        let a : n ≤ (t - r.phase - 1) / r.period
        = (le-div_iff_mul-le {k = r.period} {x = n} {y = t - r.phase - 1} pos).1 (omega (arith, leb-false t r.phase e)) in
        omega arith

-- the job after n others is due by t just where n is below the deadlines by t
pub due_then : (r : Row) (n t : ℕ) → 0 < r.period → n < deadlines_by r t → next_release r n + r.deadline ≤ t
due_then r n t pos = go (ltb t (r.phase + r.deadline)) refl
  where
    go : (b : Bool) → ltb t (r.phase + r.deadline) ≡ b → n < cond b 0 (1 + (t - r.phase - r.deadline) / r.period)
        → r.phase + n * r.period + r.deadline ≤ t
    go true e h = absurd (omega arith)
    go false e h =
        let a : n * r.period ≤ t - r.phase - r.deadline
        = (le-div_iff_mul-le {k = r.period} {x = n} {y = t - r.phase - r.deadline} pos).0 (omega arith) in
        omega (arith, ltb-false t (r.phase + r.deadline) e)

pub counted_due : (r : Row) (n t : ℕ) → 0 < r.period → next_release r n + r.deadline ≤ t → n < deadlines_by r t
counted_due r n t pos h = go (ltb t (r.phase + r.deadline)) refl
  where
    go : (b : Bool) → ltb t (r.phase + r.deadline) ≡ b → n < cond b 0 (1 + (t - r.phase - r.deadline) / r.period)
    go true e = absurd (omega (arith, ltb-true t (r.phase + r.deadline) e))
    go false e =
        let a : n ≤ (t - r.phase - r.deadline) / r.period
        = (le-div_iff_mul-le {k = r.period} {x = n} {y = t - r.phase - r.deadline} pos).1 (omega arith) in
        omega arith

-- a larger number of jobs takes longer
pub period_later : (r : Row) (m n : ℕ) → m < n → next_release r m + r.period ≤ next_release r n
period_later r m n h = let a : suc m * r.period ≤ n * r.period = mul-le-mul_right r.period h in omega arith

pub more_releases : (r : Row) (t : ℕ) → 0 < r.period → releases_before r t ≤ releases_before r (t + 1)
more_releases r t pos =
    ⊎_elim
    (λ lt. absurd (let a = released_then r (releases_before r (t + 1)) t pos lt in omega (arith, counted_then r (releases_before r (t + 1)) (t + 1) pos (omega arith))))
    (λ ge. ge)
    (cases_lt (releases_before r (t + 1)) (releases_before r t))

-- no release is past
pub next_not_past : (r : Row) (t : ℕ) → 0 < r.period → t ≤ next_release r (releases_before r t)
next_not_past r t pos =
    ⊎_elim (λ lt. absurd (omega (arith, counted_then r (releases_before r t) t pos lt))) (λ ge. ge) (cases_lt (next_release r (releases_before r t)) t)

-- at its time one job is released, at others none
pub release_now : (r : Row) (t : ℕ) → 0 < r.period → next_release r (releases_before r t) ≡ t → releases_before r (t + 1) ≡ releases_before r t + 1
release_now r t pos e =
    let more : releases_before r t < releases_before r (t + 1) = counted_then r (releases_before r t) (t + 1) pos (omega arith) in
    ⊎_elim
    (λ lt. absurd (let a = released_then r (releases_before r t + 1) (t + 1) pos lt in omega (arith, period_later r (releases_before r t) (releases_before r t + 1) (omega arith))))
    (λ ge. omega arith)
    (cases_lt (releases_before r t + 1) (releases_before r (t + 1)))

pub no_release_now : (r : Row) (t : ℕ) → 0 < r.period → (next_release r (releases_before r t) ≡ t → ⊥) → releases_before r (t + 1) ≡ releases_before r t
no_release_now r t pos ne =
    let ge : t ≤ next_release r (releases_before r t) = next_not_past r t pos in
    let more : releases_before r t ≤ releases_before r (t + 1) = more_releases r t pos in
    ⊎_elim
    (λ lt. absurd (let a = released_then r (releases_before r t) (t + 1) pos lt in ne (omega arith)))
    (λ le. omega arith)
    (cases_lt (releases_before r t) (releases_before r (t + 1)))

-- nothing is released before clock 0, and no more jobs than ticks have passed
pub none_before_zero : (r : Row) → 0 < r.period → releases_before r 0 ≡ 0
none_before_zero r pos =
    ⊎_elim (λ lt. absurd (omega (arith, released_then r 0 0 pos lt))) (λ ge. omega arith) (cases_lt 0 (releases_before r 0))

pub releases_within : (r : Row) (t : ℕ) → 0 < r.period → releases_before r t ≤ t
releases_within r t pos =
    ⊎_elim
    (λ lt. absurd (omega (arith, released_then r t t pos lt, le-mul_of_pos_right t pos)))
    (λ ge. ge)
    (cases_lt t (releases_before r t))
