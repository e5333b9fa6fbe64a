-- How many elements of a list pass a test.
use Rattle.std.proofs.Common.{◌≡◌, ℕ, zero, suc, ◌+◌, ◌<◌, ◌≤◌, Bool, true, false, cond, ◌||◌, leb, List, [], ◌∷◌, ◌++◌, reverse, length, get_or, count_by, sym, refl, ap, ◌∙◌, subst, ⊎_elim, arith}
use Rattle.std.specs.List.{AllByRecursion, list_any}
use Rattle.std.proofs.lemmas.List.Sorted.{IsPermutation-reverse, sum_by-IsPermutation}
use Rattle.std.proofs.lemmas.List.Sums.{sum_by-cons, sum_by-append, get_or-le-sum_by, count_by-le-length}
use Rattle.std.proofs.lemmas.Bool.{cases_Bool, le-leb}

module _ {X : Type 0} (p : X → Bool) where
  pub count_by_cons : (x : X) (xs : List X) → count_by p (x ∷ xs) ≡ cond (p x) 1 0 + count_by p xs
  count_by_cons x xs = sum_by-cons (λ y. cond (p y) 1 0) x xs

  pub count_by_yes : (x : X) (xs : List X) → p x ≡ true → count_by p (x ∷ xs) ≡ 1 + count_by p xs
  count_by_yes x xs e = count_by_cons x xs ∙ ap (λ (b : Bool). cond b 1 0 + count_by p xs) e

  pub count_by_no : (x : X) (xs : List X) → p x ≡ false → count_by p (x ∷ xs) ≡ count_by p xs
  count_by_no x xs e = count_by_cons x xs ∙ ap (λ (b : Bool). cond b 1 0 + count_by p xs) e ∙ omega arith

  pub count_by_append : (xs ys : List X) → count_by p (xs ++ ys) ≡ count_by p xs + count_by p ys
  count_by_append xs ys = sum_by-append (λ y. cond (p y) 1 0) xs ys

  pub count_by_reverse : (xs : List X) → count_by p (reverse xs) ≡ count_by p xs
  count_by_reverse xs = sum_by-IsPermutation (λ y. cond (p y) 1 0) xs (reverse xs) (IsPermutation-reverse xs)

  -- an element that passes is counted
  pub count_by_has : (xs : List X) (i : ℕ) (d : X) → i < length xs → p (get_or xs i d) ≡ true → 1 ≤ count_by p xs
  count_by_has xs i d h e = subst (λ n. n ≤ count_by p xs) (ap (λ (b : Bool). cond b 1 0) e) (get_or-le-sum_by (λ y. cond (p y) 1 0) xs i d h)

  -- where no element passes the count is 0, and the other way round
  pub count_by_none : (xs : List X) → AllByRecursion (λ x. p x ≡ false) xs → count_by p xs ≡ 0
  count_by_none [] h = refl
  count_by_none (x ∷ xs) h = count_by_no x xs h.0 ∙ count_by_none xs h.1

  pub none_passes : (xs : List X) → count_by p xs ≡ 0 → AllByRecursion (λ x. p x ≡ false) xs
  none_passes [] h = tt
  none_passes (x ∷ xs) h = ⊎_elim
      (λ (e : p x ≡ true). absurd (omega (arith, count_by_yes x xs e)))
      (λ (e : p x ≡ false). (e, none_passes xs (sym (count_by_no x xs e) ∙ h)))
      (cases_Bool (p x))

  -- an element passes just where the count is not 0
  pub list_any_counts : (xs : List X) → list_any p xs ≡ leb 1 (count_by p xs)
  list_any_counts [] = refl
  list_any_counts (x ∷ xs) = ⊎_elim
      (λ (e : p x ≡ true). ap (λ b. b || list_any p xs) e ∙ sym (le-leb 1 _ (omega (arith, count_by_yes x xs e))))
      (λ (e : p x ≡ false). ap (λ b. b || list_any p xs) e ∙ list_any_counts xs ∙ ap (leb 1) (sym (count_by_no x xs e)))
      (cases_Bool (p x))

  -- where all are counted, all pass
  pub all_pass : (xs : List X) → count_by p xs ≡ length xs → AllByRecursion (λ x. p x ≡ true) xs
  all_pass [] h = tt
  all_pass (x ∷ xs) h = ⊎_elim
      (λ (e : p x ≡ true). (e, all_pass xs (omega (arith, count_by_yes x xs e))))
      (λ (e : p x ≡ false). absurd (omega (arith, count_by_no x xs e, count_by-le-length p xs)))
      (cases_Bool (p x))

  -- where the count is not 0 an element passes, with all that holds of each
  pub some_passes : (P : X → Type 0) (xs : List X) → 1 ≤ count_by p xs → AllByRecursion P xs → (x : X) × ((p x ≡ true) × P x)
  some_passes P [] h a = absurd (omega arith)
  some_passes P (x ∷ xs) h a = ⊎_elim
      (λ (e : p x ≡ true). (x, (e, a.0)))
      (λ (e : p x ≡ false). some_passes P xs (omega (arith, count_by_no x xs e)) a.1)
      (cases_Bool (p x))

  -- where at most one passes, two that pass are the same
  pub one_passes : (xs : List X) → count_by p xs ≤ 1 → (a b : X) (i j : ℕ) → i < length xs → ((d : X) → get_or xs i d ≡ a) → j < length xs → ((d : X) → get_or xs j d ≡ b) → p a ≡ true → p b ≡ true → a ≡ b
  one_passes [] h a b i j l f m g e k = absurd (omega arith)
  one_passes (x ∷ xs) h a b zero zero l f m g e k = sym (f x) ∙ g x
  one_passes (x ∷ xs) h a b zero (suc j) l f m g e k = absurd (omega (arith, count_by_yes x xs (ap p (f x) ∙ e), count_by_has xs j b (omega arith) (ap p (g b) ∙ k)))
  one_passes (x ∷ xs) h a b (suc i) zero l f m g e k = absurd (omega (arith, count_by_yes x xs (ap p (g x) ∙ k), count_by_has xs i a (omega arith) (ap p (f a) ∙ e)))
  one_passes (x ∷ xs) h a b (suc i) (suc j) l f m g e k = one_passes xs (omega (arith, count_by_cons x xs)) a b i j (omega arith) f (omega arith) g e k

-- tests that agree count alike
pub count_by_same : {X : Type 0} (p q : X → Bool) (xs : List X) → AllByRecursion (λ x. p x ≡ q x) xs → count_by p xs ≡ count_by q xs
count_by_same p q [] h = refl
count_by_same p q (x ∷ xs) h = count_by_cons p x xs ∙ ap (λ (b : Bool). cond b 1 0 + count_by p xs) h.0 ∙ ap (λ n. cond (q x) 1 0 + n) (count_by_same p q xs h.1) ∙ sym (count_by_cons q x xs)
