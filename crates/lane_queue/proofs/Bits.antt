-- The bits of a word: of its operations, and the lowest that is set.
use Rattle.std.proofs.Common.{◌≡◌, ℕ, zero, suc, ◌-◌, ◌*◌, ◌/◌, ◌%◌, ◌^◌, ◌<◌, ◌≤◌, min, max, Bool, cond, eqb, sym, refl, ap, ◌∙◌, ⊎_elim, pow-suc, arith}
use lib.Bits.{bit_and, bit_or, and_step, or_step, and_self}
use lib.Count.{count_trailing_zeros, under}
use Rattle.std.proofs.lemmas.Nat.{pow_below, one_shl}
use Rattle.std.proofs.lemmas.Bool.{eq-eqb, ne_eqb, cases_eq, cases_lt}
use Rattle.lane_queue.specs.Words.{bit}

pub bit_none : (k : ℕ) → bit k 0 ≡ 0
unfolding bit
bit_none zero = refl
bit_none (suc k) = bit_none k

pub bit_le : (k a : ℕ) → bit k a ≤ 1
unfolding bit
bit_le zero a = omega arith
bit_le (suc k) a = bit_le k (a / 2)

pub bit_past : (n k a : ℕ) → a < 2 ^ n → n ≤ k → bit k a ≡ 0
unfolding bit
bit_past zero k a l m = ap (bit k) (omega arith) ∙ bit_none k
bit_past (suc n) zero a l m = absurd (omega arith)
bit_past (suc n) (suc k) a l m = bit_past n k (a / 2) (omega (arith, pow-suc 2 n)) (omega arith)

pub bit-bit_or : (k a b : ℕ) → bit k (bit_or a b) ≡ max (bit k a) (bit k b)
unfolding bit
bit-bit_or zero a b = omega (arith, or_step a b)
bit-bit_or (suc k) a b = let e : bit_or a b / 2 ≡ bit_or (a / 2) (b / 2) = omega (arith, or_step a b) in ap (bit k) e ∙ bit-bit_or k (a / 2) (b / 2)

pub bit-bit_and : (k a b : ℕ) → bit k (bit_and a b) ≡ min (bit k a) (bit k b)
unfolding bit
bit-bit_and zero a b = omega (arith, and_step a b)
bit-bit_and (suc k) a b = let e : bit_and a b / 2 ≡ bit_and (a / 2) (b / 2) = omega (arith, and_step a b) in ap (bit k) e ∙ bit-bit_and k (a / 2) (b / 2)

pub bit_not : (n k a : ℕ) → a < 2 ^ n → k < n → bit k (2 ^ n - 1 - a) ≡ 1 - bit k a
unfolding bit
bit_not zero k a l m = absurd (omega arith)
bit_not (suc n) zero a l m = omega (arith, pow-suc 2 n)
bit_not (suc n) (suc k) a l m =
    let p = pow-suc 2 n in
    let e : (2 ^ suc n - 1 - a) / 2 ≡ 2 ^ n - 1 - a / 2 = omega arith in
    ap (bit k) e ∙ bit_not n k (a / 2) (omega arith) (omega arith)

pub bit_power : (i : ℕ) → bit i (2 ^ i) ≡ 1
unfolding bit
bit_power zero = refl
bit_power (suc i) = let e : 2 ^ suc i / 2 ≡ 2 ^ i = omega (arith, pow-suc 2 i) in ap (bit i) e ∙ bit_power i

pub bit_power_other : (i k : ℕ) → (k ≡ i → ⊥) → bit k (2 ^ i) ≡ 0
unfolding bit
bit_power_other zero zero u = absurd (u refl)
bit_power_other zero (suc k) u = bit_none k
bit_power_other (suc i) zero u = omega (arith, pow-suc 2 i)
bit_power_other (suc i) (suc k) u = let e : 2 ^ suc i / 2 ≡ 2 ^ i = omega (arith, pow-suc 2 i) in ap (bit k) e ∙ bit_power_other i k (λ f. u (ap suc f))

-- a word with one bit set, or cleared
module _ (word i : ℕ) (in' : i < 32) where
  pub bit_with : (k : ℕ) → bit k (bit_or word ((1 * 2 ^ i) % 2 ^ 32)) ≡ cond (eqb k i) 1 (bit k word)
  bit_with k = ap (λ b. bit k (bit_or word b)) (one_shl i 32 in') ∙ bit-bit_or k word (2 ^ i) ∙ ⊎_elim
      (λ (e : k ≡ i). omega (arith, bit_le k word, ap (λ j. bit j (2 ^ i)) e, bit_power i) ∙ sym (ap (λ (b : Bool). cond b 1 (bit k word)) (eq-eqb k i e)))
      (λ (u : k ≡ i → ⊥). omega (arith, bit_power_other i k u) ∙ sym (ap (λ (b : Bool). cond b 1 (bit k word)) (ne_eqb k i u)))
      (cases_eq k i)

  pub bit_without : word < 2 ^ 32 → (k : ℕ) → bit k (bit_and word (2 ^ 32 - 1 - (1 * 2 ^ i) % 2 ^ 32)) ≡ cond (eqb k i) 0 (bit k word)
  bit_without fits k = ap (λ b. bit k (bit_and word (2 ^ 32 - 1 - b))) (one_shl i 32 in') ∙ bit-bit_and k word (2 ^ 32 - 1 - 2 ^ i) ∙ ⊎_elim
      (λ (e : k ≡ i). omega (arith, bit_not 32 k (2 ^ i) below (omega arith), ap (λ j. bit j (2 ^ i)) e, bit_power i) ∙ sym (ap (λ (b : Bool). cond b 0 (bit k word)) (eq-eqb k i e)))
      (λ (u : k ≡ i → ⊥). ⊎_elim
      (λ (l : k < 32). omega (arith, bit_le k word, bit_not 32 k (2 ^ i) below l, bit_power_other i k u))
      (λ (g : 32 ≤ k). omega (arith, bit_past 32 k word fits g))
      (cases_lt k 32) ∙ sym (ap (λ (b : Bool). cond b 0 (bit k word)) (ne_eqb k i u)))
      (cases_eq k i)
    where
      below : 2 ^ i < 2 ^ 32
      below = pow_below i 32 in'

-- the lowest set bit
low_step : (n w t r : ℕ) → w % 2 ≡ r → 0 < w → (0 < w / 2 → (t < n) × (bit t (w / 2) ≡ 1)) → (under r t < suc n) × (bit (under r t) w ≡ 1)
unfolding bit
low_step n w t zero e p ih = let h = ih (omega arith) in (omega (arith, h.0), h.1)
low_step n w t (suc r) e p ih = (omega arith, omega arith)

pub lowest : (n w : ℕ) → 0 < w → w < 2 ^ n → (count_trailing_zeros n w < n) × (bit (count_trailing_zeros n w) w ≡ 1)
unfolding bit count_trailing_zeros
lowest zero w p l = absurd (omega arith)
lowest (suc n) w p l = low_step n w (count_trailing_zeros n (w / 2)) (w % 2) refl p (λ q. lowest n (w / 2) q (omega (arith, pow-suc 2 n)))

odd_step : (w k r : ℕ) → w % 2 ≡ suc r → bit (suc k) (bit_and w (w - 1)) ≡ bit (suc k) w
unfolding bit
odd_step w k r e =
    let h : (w - 1) / 2 ≡ w / 2 = omega arith in
    let f : bit_and w (w - 1) / 2 ≡ bit_and (w / 2) ((w - 1) / 2) = omega (arith, and_step w (w - 1)) in
    ap (bit k) (f ∙ ap (bit_and (w / 2)) h ∙ and_self (w / 2))

other_step : (n w t k r : ℕ) → w % 2 ≡ r → 0 < w → (k ≡ under r t → ⊥) → ((j : ℕ) → 0 < w / 2 → (j ≡ t → ⊥) → bit j (bit_and (w / 2) (w / 2 - 1)) ≡ bit j (w / 2)) → bit k (bit_and w (w - 1)) ≡ bit k w
unfolding bit
other_step n w t zero zero e p u ih = omega (arith, and_step w (w - 1))
other_step n w t (suc k) zero e p u ih =
    let h : (w - 1) / 2 ≡ w / 2 - 1 = omega arith in
    let f : bit_and w (w - 1) / 2 ≡ bit_and (w / 2) ((w - 1) / 2) = omega (arith, and_step w (w - 1)) in
    ap (bit k) (f ∙ ap (bit_and (w / 2)) h) ∙ ih k (omega arith) (omega arith)
other_step n w t zero (suc r) e p u ih = absurd (u refl)
other_step n w t (suc k) (suc r) e p u ih = odd_step w k r e

-- w & (w - 1) leaves every other bit as it is
pub others : (n w : ℕ) → 0 < w → w < 2 ^ n → (k : ℕ) → (k ≡ count_trailing_zeros n w → ⊥) → bit k (bit_and w (w - 1)) ≡ bit k w
unfolding bit count_trailing_zeros
others zero w p l k u = absurd (omega arith)
others (suc n) w p l k u = other_step n w (count_trailing_zeros n (w / 2)) k (w % 2) refl p u (λ j q v. others n (w / 2) q (omega (arith, pow-suc 2 n)) j v)
