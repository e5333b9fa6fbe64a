-- The list has every divisor of the cycle, and nothing else, rising.
use Rattle.std.proofs.Common.{◌≡◌, ℕ, zero, suc, ◌+◌, ◌-◌, ◌*◌, ◌/◌, ◌%◌, ◌<◌, ◌≤◌, Bool, true, false, cond, T, eqb, ltb, leb, List, [], ◌∷◌, length, get_or, sym, refl, ap, ◌∙◌, subst, ⊎_elim, not-suc-le-zero, mul-le-mul_right, mul_comm, mul-le-mul_left, zero-mul, arith, eqb→eq, ltb→lt, leb→le, lt-ltb, eq-eqb}
use native.Mathlib.Nat.{div-mul_cancel, dvd_of_mod-eq-zero, mul-div_cancel_left, mul-mod_right}
use Rattle.std.proofs.lemmas.Bool.{cases_lt}
use Rattle.periods.specs.Periods.{cycle, periods, period_of, Divides, Rising, Complete}
use Rattle.periods.proofs.Entries.{both, both_left, both_right, entry_passes}

-- x stands at place k: it divides the cycle, is no larger, and what stands next is larger
divisor_at : ℕ → ℕ → Bool
divisor_at k x =
    both (ltb 0 x) (both (eqb (cycle % x) 0) (both (leb x cycle) (cond (ltb (suc k) 240) (ltb x (get_or periods (suc k) 0)) true)))

all_divisors : (k : ℕ) → k < 240 → T (divisor_at k (get_or periods k 0))
unfolding divisor_at periods
all_divisors k h = entry_passes divisor_at periods tt k h

module _ (code : ℕ) (low : 1 ≤ code) (high : code ≤ 240) where
  p : ℕ
  p = period_of code

  tested : T (divisor_at (code - 1) (period_of code))
  tested = all_divisors (code - 1) (omega arith)

  after_divides : T (both (leb (period_of code) cycle) (cond (ltb (suc (code - 1)) 240) (ltb (period_of code) (get_or periods (suc (code - 1)) 0)) true))
  unfolding divisor_at
  after_divides = both_right (eqb (cycle % period_of code) 0) _ (both_right (ltb 0 (period_of code)) _ tested)

  pub positive : 0 < period_of code
  unfolding divisor_at
  positive = ltb→lt 0 _ (both_left (ltb 0 (period_of code)) _ tested)

  pub no_rest : cycle % period_of code ≡ 0
  unfolding divisor_at
  no_rest = eqb→eq _ 0 (both_left (eqb (cycle % period_of code) 0) _ (both_right (ltb 0 (period_of code)) _ tested))

  pub within_cycle : period_of code ≤ cycle
  within_cycle = leb→le _ _ (both_left (leb (period_of code) cycle) _ after_divides)

  -- a whole number of periods makes up the cycle
  pub tiles : period_of code * (cycle / period_of code) ≡ cycle
  tiles = mul_comm (period_of code) (cycle / period_of code) ∙ div-mul_cancel (period_of code) (dvd_of_mod-eq-zero (period_of code) no_rest)

  pub next_is_larger : code < 240 → period_of code < period_of (suc code)
  next_is_larger h =
      let e : suc (code - 1) ≡ code = omega arith in
      let f : suc code - 1 ≡ code = omega arith in
      let t : T (cond (ltb (suc (code - 1)) 240) (ltb (period_of code) (get_or periods (suc (code - 1)) 0)) true)
      = both_right (leb (period_of code) cycle) _ after_divides in
      let u : T (cond (ltb code 240) (ltb (period_of code) (get_or periods code 0)) true)
      = subst (λ m. T (cond (ltb m 240) (ltb (period_of code) (get_or periods m 0)) true)) e t in
      let v : T (ltb (period_of code) (get_or periods code 0))
      = subst (λ b. T (cond b (ltb (period_of code) (get_or periods code 0)) true)) (lt-ltb code 240 h) u in
      subst (λ m. period_of code < get_or periods m 0) (sym f) (ltb→lt _ _ v)

pub divides : Divides
divides code low high = (positive code low high, no_rest code low high)

pub rising : Rising
rising code low high = next_is_larger code low (omega arith) high

-- Completeness: a divisor below 849 is found by the test, one above by its cofactor, since 849 × 849 is more than the cycle.
has : ℕ → List ℕ → Bool
has d [] = false
has d (x ∷ xs) = cond (eqb d x) true (has d xs)

Place : ℕ → List ℕ → Type 0
Place d xs = (k : ℕ) × ((k < length xs) × (get_or xs k 0 ≡ d))

has_place : (d : ℕ) (xs : List ℕ) → T (has d xs) → Place d xs
unfolding has Place
has_place d [] t = absurd t
has_place d (x ∷ xs) t = go (λ u. has_place d xs u) (eqb d x) refl t
  where
    go : (T (has d xs) → Place d xs) → (b : Bool) → eqb d x ≡ b → T (cond b true (has d xs)) → Place d (x ∷ xs)
    go more true e t = (0, (omega arith, sym (eqb→eq d x (subst T (sym e) tt))))
    go more false e t = let p = more t in (suc p.0, (omega (arith, p.1.0), p.1.1))

all_below : (ℕ → Bool) → ℕ → Bool
all_below test zero = true
all_below test (suc n) = both (test n) (all_below test n)

at_each_below : (test : ℕ → Bool) (n : ℕ) → T (all_below test n) → (k : ℕ) → k < n → T (test k)
unfolding all_below
at_each_below test zero t k h = absurd (not-suc-le-zero h)
at_each_below test (suc n) t k h =
    ⊎_elim (λ lt. at_each_below test n (both_right (test n) (all_below test n) t) k lt)
    (λ ge. let e : n ≡ k = omega arith in subst (λ m. T (test m)) e (both_left (test n) (all_below test n) t))
    (cases_lt k n)

-- a divisor and its cofactor both stand in the list
pair_stands : ℕ → Bool
pair_stands d = cond (eqb (cycle % d) 0) (both (has d periods) (has (cycle / d) periods)) true

small_pairs : (d : ℕ) → d < 849 → T (pair_stands d)
unfolding pair_stands all_below has periods
small_pairs d h = at_each_below pair_stands 849 tt d h

pair_of : (d : ℕ) → d < 849 → cycle % d ≡ 0 → T (both (has d periods) (has (cycle / d) periods))
unfolding pair_stands
pair_of d h e =
    subst (λ b. T (cond b (both (has d periods) (has (cycle / d) periods)) true)) (eq-eqb (cycle % d) 0 e) (small_pairs d h)

as_code : (d : ℕ) → Place d periods → (code : ℕ) × ((1 ≤ code) × (code ≤ 240) × (period_of code ≡ d))
unfolding Place periods
as_code d p =
    let e : p.0 + 1 - 1 ≡ p.0 = omega arith in
    (p.0 + 1, (omega arith, omega (arith, p.1.0), ap (λ k. get_or periods k 0) e ∙ p.1.1))

pub complete : Complete
complete d pos div =
    ⊎_elim
    (λ lo. as_code d (has_place d periods (both_left _ _ (pair_of d lo div))))
    (λ hi. as_code d (subst (λ m. Place m periods) back (has_place _ periods (both_right (has (cycle / d) periods) _ (pair_of (cycle / d) (few hi) rest)))))
    (cases_lt d 849)
  where
    whole : cycle / d * d ≡ cycle
    whole = div-mul_cancel d (dvd_of_mod-eq-zero d div)

    few : 849 ≤ d → cycle / d < 849
    few hi =
        ⊎_elim (λ lt. lt)
        (λ ge. let a : 849 * 849 ≤ 849 * d = mul-le-mul_left 849 hi in let b : 849 * d ≤ cycle / d * d = mul-le-mul_right d ge in absurd (omega (arith, whole)))
        (cases_lt (cycle / d) 849)

    some : 0 < cycle / d
    some =
        ⊎_elim (λ lt. absurd (let z : cycle / d ≡ 0 = omega arith in let y : cycle / d * d ≡ 0 = ap (λ q. q * d) z ∙ zero-mul d in omega (arith, whole))) (λ ge. ge)
        (cases_lt (cycle / d) 1)

    rest : cycle % (cycle / d) ≡ 0
    rest = ap (λ n. n % (cycle / d)) (sym whole) ∙ mul-mod_right (cycle / d) d

    back : cycle / (cycle / d) ≡ d
    back = ap (λ n. n / (cycle / d)) (sym whole) ∙ mul-div_cancel_left d some
