-- Devi's test bounds the demand in every window.
use Rattle.std.proofs.Common.{◌≡◌, ℕ, zero, suc, ◌+◌, ◌-◌, ◌*◌, ◌/◌, ◌<◌, ◌≤◌, max, Bool, true, false, cond, ltb, leb, List, [], ◌∷◌, length, get_or, drop, sym, refl, ap, ◌∙◌, subst, mul-le-mul_right, mul-le-mul_left, mul-zero, add-one, arith, lit<}
use native.Mathlib.Nat.{mul-div-le, le_of_mul-le-mul_left}
use Rattle.std.proofs.lemmas.List.{drop_all, drop_more}
use Rattle.std.proofs.lemmas.List.Sums.{sum_by-cons, sum_by_more}
use Rattle.std.proofs.lemmas.Bool.{leb-true, leb-false, ltb-false, lt-leb}
use Rattle.periods.specs.Periods.{cycle}
use Rattle.sheet.specs.declared.row.Row.{Row}
use Rattle.sheet.specs.Rows.{blank, units, lawful_after}
use Rattle.sheet.specs.Tables.{rows_of}
use Rattle.verdict.specs.declared.answer.Verdict.{Verdict}
use Rattle.verdict.specs.declared.answer.Verdict.TheVariants.{Admitted, FailsAt}
use Rattle.verdict.specs.Test.{load, gap, shortfall, longest_hold, row_at, load_to, shortfall_to, blocking_after, asked_at, room_at, passes, first_failing, verdict_of}
use Rattle.rules.proofs.Rows.{row_ranges, not_below, first_lawful, rest_lawful}
use Rattle.rules.specs.Demand.{demand, need, blocking, Bounded, DeviBounds}

gap_is : (p d : ℕ) → gap p d ≡ p - d
gap_is p d = go (ltb d p) refl
  where
    go : (t : Bool) → ltb d p ≡ t → cond t (p - d) 0 ≡ p - d
    go true e = refl
    go false e = omega (arith, ltb-false d p e)

-- the periods of the jobs in a window reach past it by the gap at most
window : (p d l k : ℕ) → p * k ≤ l - d → d ≤ l → p * (1 + k) ≤ l + (p - d)
window p d l k h i = omega arith

scaled : (p q e g l k : ℕ) → p * (1 + k) ≤ l + g → (p * q) * (e * (1 + k)) ≤ l * (e * q) + g * (e * q)
scaled p q e g l k h = omega (arith, mul-le-mul_right (e * q) h)

in_window : (c p q e d l : ℕ) → p * q ≡ c → d ≤ l → c * (e * (1 + (l - d) / p)) ≤ l * (e * q) + (p - d) * (e * q)
in_window c p q e d l t h =
    subst (λ (n : ℕ). n * (e * (1 + (l - d) / p)) ≤ l * (e * q) + (p - d) * (e * q)) t
    (scaled p q e (p - d) l ((l - d) / p) (window p d l ((l - d) / p) (mul-div-le (l - d) p) h))

-- C times what a row asks is at most L × S + G of that row
pub row_bound : (r : Row) (l : ℕ) → r.period * (cycle / r.period) ≡ cycle → cycle * demand r l ≤ l * load r + shortfall r
row_bound r l t = rw gap_is (go (leb r.deadline l) refl)
  where
    go : (b : Bool) → leb r.deadline l ≡ b
        → cycle * (units r * cond b (1 + (l - r.deadline) / r.period) 0) ≤ l * load r + (r.period - r.deadline) * load r
    go true h = in_window cycle r.period (cycle / r.period) (units r) r.deadline l t (leb-true r.deadline l h)
    go false h = omega arith

-- the test of a row as a fact of numbers: what is asked up to a later time finds room there too
past_deadline : (c d s g b x m : ℕ) → d * s + g + b * c ≤ c * d → 0 < d → 0 < c → c * x ≤ (d + m) * s + g → x + b ≤ d + m
past_deadline c d s g b x m h hd hc hx =
    let a : d * s ≤ d * c = omega arith in
    let sc : s ≤ c = le_of_mul-le-mul_left {m = s} {n = c} {k = d} a hd in
    let ms : m * s ≤ m * c = mul-le-mul_left m sc in
    let f : c * (x + b) ≤ c * (d + m) = omega arith in
    le_of_mul-le-mul_left {m = x + b} {n = d + m} {k = c} f hc

room : (c d s g b x l : ℕ) → d * s + g + b * c ≤ c * d → 0 < d → 0 < c → d ≤ l → c * x ≤ l * s + g → x + b ≤ l
room c d s g b x l h hd hc hl hx =
    let e : d + (l - d) ≡ l = omega arith in
    subst (λ (n : ℕ). x + b ≤ n) e
    (past_deadline c d s g b x (l - d) h hd hc (subst (λ (n : ℕ). c * x ≤ n * s + g) (sym e) hx))

-- every row passes, where the rows before have the load s and the shortfall g
abbrev pub AllPass : ℕ → ℕ → List Row → Type 0
AllPass s g [] = Unit {0}
AllPass s g (r ∷ rs) =
    (r.deadline * (s + load r) + (g + shortfall r) + longest_hold rs * cycle ≤ cycle * r.deadline)
    × AllPass (s + load r) (g + shortfall r) rs

failing_not : (b : Bool) (v : Verdict) (k : ℕ) → cond b v (FailsAt k) ≡ Admitted → (b ≡ true) × (v ≡ Admitted)
failing_not true v k e = (refl, e)
failing_not false v k e = let z : ◌≡◌ {A = ℕ} 0 1 = cc in absurd (omega arith)

all_pass : (n k : ℕ) (rows : List Row) → k + n ≡ length rows → first_failing n (suc k) rows ≡ Admitted
    → AllPass (load_to k rows) (shortfall_to k rows) (drop k rows)
all_pass zero k rows e v =
    subst (λ (rs : List Row). AllPass (load_to k rows) (shortfall_to k rows) rs) (sym (drop_all k rows (omega arith))) tt
all_pass (suc n) k rows e v = rw (split, ← loads, ← shorts) (passed, all_pass n (suc k) rows (omega arith) parts.1)
  where
    here : Row
    here = get_or rows k blank

    after : ℕ
    after = blocking_after (suc k) rows

    within : k < length rows
    within = omega arith

    split : drop k rows ≡ here ∷ drop (suc k) rows
    split = rw add-one at (drop_more rows k blank within)

    loads : load_to (suc k) rows ≡ load_to k rows + load here
    loads = rw add-one at (sum_by_more load rows k blank within)

    shorts : shortfall_to (suc k) rows ≡ shortfall_to k rows + shortfall here
    shorts = rw add-one at (sum_by_more shortfall rows k blank within)

    parts : (passes (suc k) rows ≡ true) × (first_failing n (suc (suc k)) rows ≡ Admitted)
    parts = failing_not (passes (suc k) rows) (first_failing n (suc (suc k)) rows) (suc k) v

    at : row_at (suc k) rows ≡ here
    at = let o : suc k - 1 ≡ k = omega arith in ap (λ (n : ℕ). get_or rows n blank) o

    passed : here.deadline * load_to (suc k) rows + shortfall_to (suc k) rows + after * cycle ≤ cycle * here.deadline
    passed =
        subst (λ (r : Row). r.deadline * load_to (suc k) rows + shortfall_to (suc k) rows + after * cycle ≤ cycle * r.deadline) at
        (leb-true (asked_at (suc k) rows) (room_at (suc k) rows) parts.0)

-- rows due past l ask nothing
past_jobs : (r : Row) (l : ℕ) → l < r.deadline → demand r l ≡ 0
past_jobs r l h = ap (λ (b : Bool). units r * cond b (1 + (l - r.deadline) / r.period) 0) (lt-leb r.deadline l h) ∙ mul-zero (units r)

past_need : (d l : ℕ) (rs : List Row) → l < d → lawful_after d rs ≡ true → need rs l ≡ 0
past_need d l [] h a = refl
past_need d l (r ∷ rs) h a =
    let low : d ≤ r.deadline = not_below d r (first_lawful d r rs a) in
    let rest : need rs l ≡ 0 = past_need r.deadline l rs (omega arith) (rest_lawful d r rs a) in
    omega (arith, sum_by-cons (λ r. demand r l) r rs, past_jobs r l (omega arith))

none_asked : (d l : ℕ) (r : Row) (rs : List Row) → l < r.deadline → lawful_after d (r ∷ rs) ≡ true → need (r ∷ rs) l ≡ 0
none_asked d l r rs h a =
    omega (arith, sum_by-cons (λ r. demand r l) r rs, past_jobs r l h, past_need r.deadline l rs h (rest_lawful d r rs a))

-- and block for the longest hold at most
blocking_longest : (l : ℕ) (rs : List Row) → blocking rs l ≤ longest_hold rs
blocking_longest l [] = omega arith
blocking_longest l (r ∷ rs) = go (leb r.deadline l) (blocking_longest l rs)
  where
    go : (b : Bool) → blocking rs l ≤ longest_hold rs → max (cond b 0 r.hold) (blocking rs l) ≤ max r.hold (longest_hold rs)
    go true i = omega arith
    go false i = omega arith

-- one row more
one_more : (c s g x l y v u : ℕ) → c * x ≤ l * s + g → c * y ≤ l * v + u → c * (x + y) ≤ l * (s + v) + (g + u)
one_more c s g x l y v u h k = omega arith

-- after rows that ask x, a row that passes and is due within the window: what it adds, and the room it leaves for a hold
module _ (s g x l d : ℕ) (r : Row) (rs : List Row) (asked_before : cycle * x ≤ l * s + g) (passing : AllPass s g (r ∷ rs))
    (lawful : lawful_after d (r ∷ rs) ≡ true) where
  asked : cycle * (x + demand r l) ≤ l * (s + load r) + (g + shortfall r)
  asked = one_more cycle s g x l (demand r l) (load r) (shortfall r) asked_before (row_bound r l (row_ranges d r (first_lawful d r rs lawful)).tiles)

  room_left : r.deadline ≤ l → x + demand r l + longest_hold rs ≤ l
  room_left h =
      room cycle r.deadline (s + load r) (g + shortfall r) (longest_hold rs) (x + demand r l) l passing.0
      (row_ranges d r (first_lawful d r rs lawful)).some_deadline (lit< tt) h asked

-- after rows that ask x and leave room for the longest hold of the others
need_from : (s g x l d : ℕ) (rs : List Row) → cycle * x ≤ l * s + g → x + longest_hold rs ≤ l
    → AllPass s g rs → lawful_after d rs ≡ true → x + need rs l + blocking rs l ≤ l
need_from s g x l d [] hx hb p a = omega arith
need_from s g x l d (r ∷ rs) hx hb p a =
    go (leb r.deadline l) refl
    (λ h. need_from (s + load r) (g + shortfall r) (x + demand r l) l r.deadline rs
    (asked s g x l d r rs hx p a) (room_left s g x l d r rs hx p a h) p.1 (rest_lawful d r rs a))
  where
    go : (b : Bool) → leb r.deadline l ≡ b → (r.deadline ≤ l → x + demand r l + need rs l + blocking rs l ≤ l)
        → x + need (r ∷ rs) l + max (cond b 0 r.hold) (blocking rs l) ≤ l
    go true h i = omega (arith, sum_by-cons (λ r. demand r l) r rs, i (leb-true r.deadline l h))
    go false h i = omega (arith, none_asked d l r rs (leb-false r.deadline l h) a, blocking_longest l rs)

-- a window that asks anything asks it of the first row too, and so has room
within : (rows : List Row) (l : ℕ) → lawful_after 0 rows ≡ true → AllPass 0 0 rows → 0 < need rows l → need rows l + blocking rows l ≤ l
within [] l a p h = absurd (omega arith)
within (r ∷ rs) l a p h = go (leb r.deadline l) refl
  where
    go : (b : Bool) → leb r.deadline l ≡ b → need (r ∷ rs) l + max (cond b 0 r.hold) (blocking rs l) ≤ l
    go true e =
        omega (
          arith,
          sum_by-cons (λ r. demand r l) r rs,
          need_from (0 + load r) (0 + shortfall r) (0 + demand r l) l r.deadline rs (asked 0 0 0 l 0 r rs (omega arith) p a)
              (room_left 0 0 0 l 0 r rs (omega arith) p a (leb-true r.deadline l e)) p.1 (rest_lawful 0 r rs a),
        )
    go false e = absurd (omega (arith, none_asked 0 l r rs (leb-false r.deadline l e) a))

pub bounded : (m : ℕ) (rows : List Row) → lawful_after 0 rows ≡ true → verdict_of rows ≡ Admitted → Bounded m rows
bounded m rows a v l _ h = within rows l a (all_pass (length rows) 0 rows (omega arith) v) h

pub devi_bounds : DeviBounds
devi_bounds t v m = bounded m (rows_of t) t.lawful v
