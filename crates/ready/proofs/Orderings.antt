-- Elements at their places: what `placed` and `ordered` keep, and that they give a sorted list.
use Rattle.std.proofs.Common.{◌≡◌, ℕ, suc, ◌+◌, Bool, true, false, cond, List, [], ◌∷◌, ◌++◌, length, take, drop, sum_by, count_by, refl, ap, ◌∙◌, subst, ⊎_elim, arith}
use Rattle.std.specs.List.{AllByRecursion, prefix_len}
use Rattle.std.specs.List.Sorted.{IsPermutation}
use Rattle.std.proofs.ByRecursion.{All-weaker, all_shuffled}
use Rattle.std.proofs.lemmas.List.Sorted.{IsPermutation-refl, IsPermutation-sym, IsPermutation-trans, IsPermutation-cons, IsPermutation-swap, length_permutation, sum_by-IsPermutation}
use Rattle.std.proofs.lemmas.List.Sums.{sum_by-cons}
use Rattle.std.proofs.lemmas.Bool.{both_ways, cond_both, cases_Bool}
use Rattle.ready.specs.Sorted.{placed, ordered, Sorted}

module _ {X : Type 0} (ahead : X → X → Bool) where
  -- one step of `placed`, by its test
  pub placed_past : (x y : X) (ys : List X) → ahead y x ≡ true → placed ahead x (y ∷ ys) ≡ y ∷ placed ahead x ys
  placed_past x y ys e = ap (λ b. cond b (y ∷ placed ahead x ys) (x ∷ y ∷ ys)) e

  pub placed_here : (x y : X) (ys : List X) → ahead y x ≡ false → placed ahead x (y ∷ ys) ≡ x ∷ y ∷ ys
  placed_here x y ys e = ap (λ b. cond b (y ∷ placed ahead x ys) (x ∷ y ∷ ys)) e

  -- x stands behind those from the front on that come before it
  pub placed_behind_prefix : (x : X) (xs : List X) → let n = prefix_len (λ y. ahead y x) xs in placed ahead x xs ≡ take n xs ++ x ∷ drop n xs
  placed_behind_prefix x [] = refl
  placed_behind_prefix x (y ∷ ys) = ⊎_elim
      (λ (e : ahead y x ≡ true).
      let n = prefix_len (λ z. ahead z x) ys in
      let next : 1 + n ≡ suc n = omega arith in
      simp (e, next) (ap (λ l. y ∷ l) (placed_behind_prefix x ys)))
      (λ (e : ahead y x ≡ false). simp e)
      (cases_Bool (ahead y x))

  -- an element that none comes before is placed in front
  pub placed_foremost : (x : X) (xs : List X) → AllByRecursion (λ y. ahead y x ≡ false) xs → placed ahead x xs ≡ x ∷ xs
  placed_foremost x [] h = refl
  placed_foremost x (y ∷ ys) h = placed_here x y ys h.0

  -- a sorted list is in order already
  pub ordered_sorted : (xs : List X) → Sorted ahead xs → ordered ahead xs ≡ xs
  ordered_sorted [] h = refl
  ordered_sorted (x ∷ xs) h = ap (placed ahead x) (ordered_sorted xs h.1) ∙ placed_foremost x xs h.0

  -- the elements stay the same
  pub shuffled_placed : (x : X) (xs : List X) → IsPermutation (x ∷ xs) (placed ahead x xs)
  shuffled_placed x [] = IsPermutation-refl (x ∷ [])
  shuffled_placed x (y ∷ ys) =
      cond_both (ahead y x) _ _ (IsPermutation (x ∷ y ∷ ys))
      (λ _. IsPermutation-trans _ (y ∷ x ∷ ys) _ (IsPermutation-swap (x ∷ y ∷ ys) (y ∷ x ∷ ys) 0 1 (omega arith) (omega arith) refl) (IsPermutation-cons y _ _ (shuffled_placed x ys)))
      (λ _. IsPermutation-refl (x ∷ y ∷ ys))

  pub shuffled_ordered : (xs : List X) → IsPermutation xs (ordered ahead xs)
  shuffled_ordered [] = IsPermutation-refl []
  shuffled_ordered (x ∷ xs) = IsPermutation-trans _ (x ∷ ordered ahead xs) _ (IsPermutation-cons x _ _ (shuffled_ordered xs)) (shuffled_placed x (ordered ahead xs))

  -- and so does how many they are
  pub length_placed : (x : X) (xs : List X) → length (placed ahead x xs) ≡ suc (length xs)
  length_placed x xs = length_permutation (x ∷ xs) _ (shuffled_placed x xs)

  pub length_ordered : (xs : List X) → length (ordered ahead xs) ≡ length xs
  length_ordered xs = length_permutation xs _ (shuffled_ordered xs)

  -- their sums
  pub sum_by_placed : (f : X → ℕ) (x : X) (xs : List X) → sum_by f (placed ahead x xs) ≡ f x + sum_by f xs
  sum_by_placed f x xs = sum_by-IsPermutation f (x ∷ xs) _ (shuffled_placed x xs) ∙ sum_by-cons f x xs

  pub sum_by_ordered : (f : X → ℕ) (xs : List X) → sum_by f (ordered ahead xs) ≡ sum_by f xs
  sum_by_ordered f xs = sum_by-IsPermutation f xs _ (shuffled_ordered xs)

  -- their counts
  pub count_by_placed : (p : X → Bool) (x : X) (xs : List X) → count_by p (placed ahead x xs) ≡ cond (p x) 1 0 + count_by p xs
  count_by_placed p = sum_by_placed (λ x. cond (p x) 1 0)

  pub count_by_ordered : (p : X → Bool) (xs : List X) → count_by p (ordered ahead xs) ≡ count_by p xs
  count_by_ordered p = sum_by_ordered (λ x. cond (p x) 1 0)

  -- and what holds of each
  module _ (P : X → Type 0) where
    pub all_placed : (x : X) (xs : List X) → P x → AllByRecursion P xs → AllByRecursion P (placed ahead x xs)
    all_placed x xs p h = all_shuffled P (x ∷ xs) _ (shuffled_placed x xs) (p, h)

    pub all_ordered : (xs : List X) → AllByRecursion P xs → AllByRecursion P (ordered ahead xs)
    all_ordered xs h = all_shuffled P xs _ (shuffled_ordered xs) h

    pub all_from_ordered : (xs : List X) → AllByRecursion P (ordered ahead xs) → AllByRecursion P xs
    all_from_ordered xs h = all_shuffled P _ xs (IsPermutation-sym xs _ (shuffled_ordered xs)) h

  -- x and y do not tie unless they are the same
  abbrev pub Apart : X → X → Type 0
  Apart x y = ahead x y ≡ false → ahead y x ≡ false → x ≡ y

  pub ahead_apart : (x y : X) → ahead x y ≡ true → Apart x y
  ahead_apart x y e p q = absurd (both_ways (ahead x y) p e)

  -- where `ahead` is a strict order in which 'not before' passes on
  module _ (one_way : (x y : X) → ahead x y ≡ true → ahead y x ≡ false) (chain : (x y z : X) → ahead x y ≡ false → ahead y z ≡ false → ahead x z ≡ false) where
    pub sorted_placed : (x : X) (xs : List X) → Sorted ahead xs → Sorted ahead (placed ahead x xs)
    sorted_placed x [] h = (tt, tt)
    sorted_placed x (y ∷ ys) h =
        cond_both (ahead y x) _ _ (Sorted ahead)
        (λ e. (all_placed (λ z. ahead z y ≡ false) x ys (one_way y x e) h.0, sorted_placed x ys h.1))
        (λ e. ((e, All-weaker (λ z. ahead z y ≡ false) (λ z. ahead z x ≡ false) (λ z k. chain z y x k e) ys h.0), h))

    pub sorted_ordered : (xs : List X) → Sorted ahead (ordered ahead xs)
    sorted_ordered [] = tt
    sorted_ordered (x ∷ xs) = sorted_placed x (ordered ahead xs) (sorted_ordered xs)

    -- a list that is in order already is sorted
    pub sorted_from : (xs : List X) → ordered ahead xs ≡ xs → Sorted ahead xs
    sorted_from xs e = subst (Sorted ahead) e (sorted_ordered xs)

    two : (x y : X) (zs : List X) (b d : Bool) → ahead y x ≡ b → ahead x y ≡ d → Apart x y → cond b (y ∷ x ∷ zs) (x ∷ y ∷ zs) ≡ cond d (x ∷ y ∷ zs) (y ∷ x ∷ zs)
    two x y zs true true p q s = absurd (both_ways (ahead x y) (one_way y x p) q)
    two x y zs true false p q s = refl
    two x y zs false true p q s = refl
    two x y zs false false p q s = let e = s q p in cc

    must : (x y z : X) (b : Bool) → ahead y x ≡ b → ahead z x ≡ true → ahead z y ≡ false → ahead y x ≡ true
    must x y z true e p q = e
    must x y z false e p q = absurd (both_ways (ahead z x) (chain z y x q e) p)

    swap_step : (x y z : X) (zs : List X) → Apart x y → placed ahead x (placed ahead y zs) ≡ placed ahead y (placed ahead x zs) → (zx zy : Bool) → ahead z x ≡ zx → ahead z y ≡ zy → placed ahead x (cond zy (z ∷ placed ahead y zs) (y ∷ z ∷ zs)) ≡ placed ahead y (cond zx (z ∷ placed ahead x zs) (x ∷ z ∷ zs))
    swap_step x y z zs s ih true true a b = simp (a, b) (ap (λ l. z ∷ l) ih)
    swap_step x y z zs s ih true false a b = let yx = must x y z (ahead y x) refl a b in simp (a, b, yx)
    swap_step x y z zs s ih false true a b = let xy = must y x z (ahead x y) refl b a in simp (a, b, xy)
    swap_step x y z zs s ih false false a b = simp (a, b) (two x y (z ∷ zs) (ahead y x) (ahead x y) refl refl s)

    -- two elements may be placed in either turn
    pub placed_placed : (x y : X) → Apart x y → (zs : List X) → placed ahead x (placed ahead y zs) ≡ placed ahead y (placed ahead x zs)
    placed_placed x y s [] = two x y [] (ahead y x) (ahead x y) refl refl s
    placed_placed x y s (z ∷ zs) = swap_step x y z zs s (placed_placed x y s zs) (ahead z x) (ahead z y) refl refl

    front_step : (x : X) (b : Bool) (y : X) (ys zs : List X) → ahead y x ≡ b → ordered ahead (placed ahead x ys ++ zs) ≡ placed ahead x (ordered ahead (ys ++ zs)) → ordered ahead (cond b (y ∷ placed ahead x ys) (x ∷ y ∷ ys) ++ zs) ≡ placed ahead x (ordered ahead (y ∷ ys ++ zs))
    front_step x true y ys zs e ih = ap (placed ahead y) ih ∙ placed_placed y x (ahead_apart y x e) (ordered ahead (ys ++ zs))
    front_step x false y ys zs e ih = refl

    -- an element that is placed in the front part comes to its place in the whole
    pub placed_in_front : (x : X) (xs zs : List X) → ordered ahead (placed ahead x xs ++ zs) ≡ placed ahead x (ordered ahead (xs ++ zs))
    placed_in_front x [] zs = refl
    placed_in_front x (y ∷ ys) zs = front_step x (ahead y x) y ys zs refl (placed_in_front x ys zs)

    -- and so does one that comes to its place in the back part, where it ties with none in front
    pub placed_behind : (x : X) (us vs ws : List X) → AllByRecursion (λ u. Apart u x) us → ordered ahead vs ≡ placed ahead x (ordered ahead ws) → ordered ahead (us ++ vs) ≡ placed ahead x (ordered ahead (us ++ ws))
    placed_behind x [] vs ws h e = e
    placed_behind x (u ∷ us) vs ws h e = ap (placed ahead u) (placed_behind x us vs ws h.1 e) ∙ placed_placed u x h.0 (ordered ahead (us ++ ws))
