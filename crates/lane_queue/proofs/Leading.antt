-- The search for the lane that leads: the lanes whose bits are gone from the word are compared.
use Rattle.std.proofs.Common.{◌≡◌, ℕ, ◌-◌, ◌^◌, ◌<◌, Bool, true, false, cond, ltb, List, get_or, sym, refl, ap, ◌∙◌, ⊎_elim, arith}
use lib.Bits.{bit_and}
use lib.Count.{count_trailing_zeros}
use Rattle.std.proofs.lemmas.Bool.{ltb-true, lt-ltb, cases_eq}
use Rattle.ready.specs.Order.{before}
use Rattle.ready.proofs.Urgency.{before_self, before_one_way, not_before_chain}
use Rattle.lane_queue.specs.declared.lane.Lane.{Lane}
use Rattle.lane_queue.specs.Lanes.{head, empty, Idle}
use Rattle.lane_queue.specs.Words.{bit}
use Rattle.lane_queue.proofs.Bits.{bit_none, others}

set_bit : (b : Bool) → ◌≡◌ {A = ℕ} (cond b 1 0) 1 → b ≡ true
set_bit true e = refl
set_bit false e = absurd (omega arith)

-- no lane that is compared has a more urgent job in front than the best
abbrev pub Compared : List Lane → ℕ → ℕ → ℕ → Type 0
Compared ls used word best = (k : ℕ) → bit k used ≡ 1 → bit k word ≡ 0 → before (head (get_or ls k empty)) (head (get_or ls best empty)) ≡ false

module _ (ls : List Lane) (used : ℕ) (marked : (k : ℕ) → bit k used ≡ cond (ltb 0 (get_or ls k empty).len) 1 0) where
  pub holds : (k : ℕ) → bit k used ≡ 1 → 0 < (get_or ls k empty).len
  holds k e = ltb-true 0 _ (set_bit _ (sym (marked k) ∙ e))

  pub is_marked : (k : ℕ) → 0 < (get_or ls k empty).len → bit k used ≡ 1
  is_marked k p = marked k ∙ ap (λ (b : Bool). cond {A = ℕ} b 1 0) (lt-ltb 0 _ p)

  pub idle : used ≡ 0 → Idle ls
  idle z k = ⊎_elim
      (λ (e : (get_or ls k empty).len ≡ 0). e)
      (λ (u : (get_or ls k empty).len ≡ 0 → ⊥). absurd (omega (arith, is_marked k (omega arith), ap (bit k) z, bit_none k)))
      (cases_eq (get_or ls k empty).len 0)

module _ (ls : List Lane) (used word : ℕ) (some : 0 < word) (fits : word < 2 ^ 32) where
  -- the lane of the lowest bit is compared with the best so far
  by_lane : (best : ℕ) → before (head (get_or ls (count_trailing_zeros 32 word) empty)) (head (get_or ls best empty)) ≡ false → ((k : ℕ) → bit k used ≡ 1 → bit k word ≡ 0 → before (head (get_or ls k empty)) (head (get_or ls best empty)) ≡ false) → Compared ls used (bit_and word (word - 1)) best
  by_lane best here old k u z = ⊎_elim
      (λ (e : k ≡ count_trailing_zeros 32 word). ap (λ j. before (head (get_or ls j empty)) (head (get_or ls best empty))) e ∙ here)
      (λ (v : k ≡ count_trailing_zeros 32 word → ⊥). old k u (sym (others 32 word some fits k v) ∙ z))
      (cases_eq k (count_trailing_zeros 32 word))

  pub stays : (best : ℕ) → before (head (get_or ls (count_trailing_zeros 32 word) empty)) (head (get_or ls best empty)) ≡ false → Compared ls used word best → Compared ls used (bit_and word (word - 1)) best
  stays best e old = by_lane best e old

  pub changes : (best : ℕ) → before (head (get_or ls (count_trailing_zeros 32 word) empty)) (head (get_or ls best empty)) ≡ true → Compared ls used word best → Compared ls used (bit_and word (word - 1)) (count_trailing_zeros 32 word)
  changes best e old =
      let new = head (get_or ls (count_trailing_zeros 32 word) empty) in
      by_lane (count_trailing_zeros 32 word) (before_self new) (λ k u z. not_before_chain (head (get_or ls k empty)) (head (get_or ls best empty)) new (old k u z) (before_one_way new (head (get_or ls best empty)) e))

-- the first lane of all
pub starts : (ls : List Lane) (used : ℕ) → 0 < used → used < 2 ^ 32 → Compared ls used (bit_and used (used - 1)) (count_trailing_zeros 32 used)
starts ls used p fits k u z = ⊎_elim
    (λ (e : k ≡ count_trailing_zeros 32 used). ap (λ j. before (head (get_or ls j empty)) (head (get_or ls (count_trailing_zeros 32 used) empty))) e ∙ before_self (head (get_or ls (count_trailing_zeros 32 used) empty)))
    (λ (v : k ≡ count_trailing_zeros 32 used → ⊥). absurd (omega (arith, others 32 used p fits k v)))
    (cases_eq k (count_trailing_zeros 32 used))
