-- The laws of an entry's order, as proofs use them.
use Rattle.std.proofs.Common.{◌≡◌, ℕ, Bool, true, false, not, ◌⊎◌, List, [], ◌∷◌, sym, refl, ap, ◌∙◌, inl, inr, ⊎_elim, arith}
use Rattle.std.specs.Cmp.{IsStrictWeakOrder}
use Rattle.std.proofs.lemmas.Bool.{both_ways, cases_eq}

-- two lists of numbers are equal or not
same : (xs ys : List ℕ) → (xs ≡ ys) ⊎ (xs ≡ ys → ⊥)
same [] [] = inl refl
same [] (y ∷ ys) = inr (λ e. let z : ◌≡◌ {A = ℕ} 0 1 = cc in omega arith)
same (x ∷ xs) [] = inr (λ e. let z : ◌≡◌ {A = ℕ} 0 1 = cc in omega arith)
same (x ∷ xs) (y ∷ ys) = ⊎_elim
    (λ (e : x ≡ y). ⊎_elim
    (λ (f : xs ≡ ys). inl (cc))
    (λ (n : xs ≡ ys → ⊥). inr (λ h. n (cc)))
    (same xs ys))
    (λ (n : x ≡ y → ⊥). inr (λ h. n (cc)))
    (cases_eq x y)

module _ {X : Type 0} (fields : X → List ℕ) (ahead : X → X → Bool)
    (just : (x y : X) → (fields x ≡ fields y → ⊥) → ahead x y ≡ not (ahead y x))
    (neither : (x y : X) → fields x ≡ fields y → ahead x y ≡ false)
    (passes : (x y z : X) → ahead x y ≡ true → ahead y z ≡ true → ahead x z ≡ true) where
  -- entries of which neither comes before the other agree in their order fields
  pub alike : (x y : X) → ahead x y ≡ false → ahead y x ≡ false → fields x ≡ fields y
  alike x y p q = ⊎_elim
      (λ (e : fields x ≡ fields y). e)
      (λ (n : fields x ≡ fields y → ⊥). absurd (both_ways false refl (sym p ∙ just x y n ∙ ap not q)))
      (same (fields x) (fields y))

  once : (x y : X) (b : Bool) → ahead y x ≡ b → ahead x y ≡ true → ahead y x ≡ false
  once x y true e h = absurd (both_ways (ahead x x) (neither x x refl) (passes x y x h e))
  once x y false e h = e

  on : (x y z : X) (a b c : Bool) → ahead x z ≡ a → ahead y x ≡ b → ahead z y ≡ c → ahead x y ≡ false → ahead y z ≡ false → ahead x z ≡ false
  on x y z false b c ea eb ec p q = ea
  on x y z true true c ea eb ec p q = absurd (both_ways (ahead y z) q (passes y x z eb ea))
  on x y z true false true ea eb ec p q = absurd (both_ways (ahead x y) p (passes x z y ea ec))
  on x y z true false false ea eb ec p q = neither x z (alike x y p eb ∙ alike y z q ec)

  pub lawful : IsStrictWeakOrder ahead
  lawful = record {
    one_way = λ x y h. once x y (ahead y x) refl h;
    chain = λ x y z p q. on x y z (ahead x z) (ahead y x) (ahead z y) refl refl refl p q;
  }
