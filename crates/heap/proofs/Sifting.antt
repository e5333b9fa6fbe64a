-- An entry rises or sinks in a heap by exchanges.
use Rattle.std.proofs.Common.{◌≡◌, ℕ, zero, suc, ◌-◌, ◌/◌, ◌<◌, ◌≤◌, Bool, true, false, List, length, get_or, sym, refl, ap, ◌∙◌, ⊎_elim, arith}
use Rattle.std.specs.Cmp.{IsStrictWeakOrder}
use Rattle.std.proofs.lemmas.Bool.{cases_Bool}
use Rattle.std.proofs.Permutation.{which}
use Rattle.heap.specs.Heaps.{Heaped}
use Rattle.heap.specs.Sifts.{Rising, Sinking, Least}

-- what `swap` says of the places
abbrev pub Exchanged : {X : Type 0} → List X → List X → ℕ → ℕ → Type 0
Exchanged {X} xs ys a b = ((d : X) → get_or ys a d ≡ get_or xs b d) × ((d : X) → get_or ys b d ≡ get_or xs a d) × ((k : ℕ) (d : X) → (k ≡ a → ⊥) → (k ≡ b → ⊥) → get_or ys k d ≡ get_or xs k d)

module _ {X : Type 0} (ahead : X → X → Bool) where
  pub by : {a b x y : X} → a ≡ x → b ≡ y → ahead x y ≡ false → ahead a b ≡ false
  by p q h = (λ k. ahead (p k) (q k)) ∙ h

  at : (xs : List X) (d : X) {i j : ℕ} → i ≡ j → get_or xs i d ≡ get_or xs j d
  at xs d e = ap (λ m. get_or xs m d) e

  -- a heap, by each entry that has a parent
  pub to_parents : (xs : List X) → Heaped ahead xs → (k : ℕ) (d : X) → 0 < k → k < length xs → ahead (get_or xs k d) (get_or xs ((k - 1) / 2) d) ≡ false
  to_parents xs h k d a b = by (at xs d (omega arith)) refl (h (k - 1) d (omega arith))

  module _ (o : IsStrictWeakOrder ahead) where
    -- no entry comes before itself
    pub never : (x : X) → ahead x x ≡ false
    never x = ⊎_elim (λ e. o.one_way x x e) (λ e. e) (cases_Bool (ahead x x))

    -- no entry of a heap comes before the one at 0
    pub top : (xs : List X) (d : X) → Heaped ahead xs → (fuel k : ℕ) → k ≤ fuel → k < length xs → ahead (get_or xs k d) (get_or xs 0 d) ≡ false
    top xs d h zero k a b = by (at xs d (omega arith)) refl (never _)
    top xs d h (suc fuel) k a b = ⊎_elim
        (λ (e : k ≡ 0). by (at xs d e) refl (never _))
        (λ (u : k ≡ 0 → ⊥). o.chain _ _ _ (to_parents xs h k d (omega arith) b) (top xs d h fuel ((k - 1) / 2) (omega arith) (omega arith)))
        (which k 0)

    module _ (xs ys : List X) (long : length ys ≡ length xs) where
      -- the entry at j goes up
      pub rises : (j : ℕ) → 0 < j → Exchanged xs ys ((j - 1) / 2) j → ((d : X) → ahead (get_or xs j d) (get_or xs ((j - 1) / 2) d) ≡ true) → Rising ahead xs j → Rising ahead ys ((j - 1) / 2)
      rises j z s t h =
          let q = (j - 1) / 2 in (
            λ k d a b n. ⊎_elim
                (λ (e : k ≡ j). by (at ys d e ∙ s.1 d) (at ys d (ap (λ m. (m - 1) / 2) e) ∙ s.0 d) (o.one_way _ _ (t d)))
                (λ (u : k ≡ j → ⊥). ⊎_elim
                (λ (e : (k - 1) / 2 ≡ j). by (s.2 k d n u) (at ys d e ∙ s.1 d) (h.1 k d a (omega arith) e z))
                (λ (v : (k - 1) / 2 ≡ j → ⊥). ⊎_elim
                (λ (e : (k - 1) / 2 ≡ q). by (s.2 k d n u) (at ys d e ∙ s.0 d) (o.chain _ _ _ (h.0 k d a (omega arith) u ∙ refl) (by (at xs d e) refl (o.one_way _ _ (t d)))))
                (λ (w : (k - 1) / 2 ≡ q → ⊥). by (s.2 k d n u) (s.2 ((k - 1) / 2) d w v) (h.0 k d a (omega arith) u))
                (which ((k - 1) / 2) q))
                (which ((k - 1) / 2) j))
                (which k j),
            λ k d a b e p. ⊎_elim
                (λ (f : k ≡ j). by (at ys d f ∙ s.1 d) (s.2 ((q - 1) / 2) d (omega arith) (omega arith)) (h.0 q d p (omega arith) (omega arith)))
                (λ (u : k ≡ j → ⊥). by (s.2 k d (omega arith) u) (s.2 ((q - 1) / 2) d (omega arith) (omega arith))
                (o.chain _ _ _ (by refl (at xs d (sym e)) (h.0 k d a (omega arith) u)) (h.0 q d p (omega arith) (omega arith))))
                (which k j),
          )

      -- the entry at j goes down, and that at c up to its place
      pub sinks : (j c : ℕ) → 0 < c → c < length xs → (c - 1) / 2 ≡ j → Exchanged xs ys j c → ((d : X) → ahead (get_or xs c d) (get_or xs j d) ≡ true) → Least ahead xs j c → Sinking ahead xs j → Sinking ahead ys c
      sinks j c z in' up s t least h = (
        λ k d a b n. ⊎_elim
            (λ (e : k ≡ c). by (at ys d e ∙ s.1 d) (at ys d (ap (λ m. (m - 1) / 2) e ∙ up) ∙ s.0 d) (o.one_way _ _ (t d)))
            (λ (u : k ≡ c → ⊥). ⊎_elim
            (λ (e : k ≡ j). by (at ys d e ∙ s.0 d) (at ys d (ap (λ m. (m - 1) / 2) e) ∙ s.2 ((j - 1) / 2) d (omega arith) (omega arith)) (h.1 c d z in' up (omega arith)))
            (λ (v : k ≡ j → ⊥). ⊎_elim
            (λ (e : (k - 1) / 2 ≡ j). by (s.2 k d v u) (at ys d e ∙ s.0 d) (least k d a (omega arith) e))
            (λ (w : (k - 1) / 2 ≡ j → ⊥). by (s.2 k d v u) (s.2 ((k - 1) / 2) d w n) (h.0 k d a (omega arith) w))
            (which ((k - 1) / 2) j))
            (which k j))
            (which k c),
        λ k d a b e p. by (s.2 k d (omega arith) (omega arith)) (at ys d up ∙ s.0 d) (by refl (at xs d (sym e)) (h.0 k d a (omega arith) (omega arith))),
      )
