-- The heap in the first slots, before and after an entry is added or removed.
use Rattle.std.proofs.Common.{◌≡◌, ℕ, zero, suc, ◌+◌, ◌-◌, ◌/◌, ◌<◌, ◌≤◌, Bool, false, leb, List, [], ◌∷◌, ◌++◌, length, get_or, take, drop, set, Some, None, sym, refl, ap, ◌∙◌, subst, ⊎_elim, arith}
use Rattle.std.specs.List.Sorted.{IsPermutation}
use Rattle.std.specs.Cmp.{IsStrictWeakOrder}
use Rattle.std.specs.List as holes
use Rattle.std.proofs.lemmas.Bool.{cond-true, le-leb}
use Rattle.std.proofs.lemmas.List.{length-set, length-take-le, get_or-set_same, get_or-set_other, get_or-take, take_more_set, take_at, drop_at, drop-set-lt, same_lists, get_or_read}
use Rattle.std.proofs.lemmas.List.Sorted.{IsPermutation-trans, IsPermutation-sym, IsPermutation-to_front, IsPermutation-cons}
use Rattle.std.proofs.ByRecursion.{All-from_get_or}
use Rattle.std.proofs.Permutation.{taken_at, which}
use Rattle.ready.specs.Waiting.{first_of}
use Rattle.heap.specs.Heaps.{Heaped, Added, Removed, remove_answer}
use Rattle.heap.specs.Sifts.{Rising, Sinking}
use Rattle.heap.proofs.Sifting.{by, top, to_parents}
use Rattle.heap.proofs.Placing.{settled, led}

-- the first slot in use
pub first_slot : {X : Type 0} (len : ℕ) (xs : List X) (x : X) → 0 < len → len ≤ length xs → x ≡ get_or xs 0 x → Some x ≡ first_of (take len xs)
first_slot zero xs x some in' is = absurd (omega arith)
first_slot (suc n) [] x some in' is = absurd (omega arith)
first_slot (suc n) (y ∷ ys) x some in' is = ap Some is

-- what a removal answers where some slots are in use
pub first_answer : {X : Type 0} (len : ℕ) (xs : List X) (x : X) → 0 < len → len ≤ length xs → x ≡ get_or xs 0 x → Some x ≡ remove_answer len xs
first_answer len xs x some in' is = first_slot len xs x some in' is ∙ sym (cond-true (leb len (length xs)) (first_of (take len xs)) None (le-leb _ _ in'))

-- where a removal answers none, no slot is in use
pub no_slot : {X : Type 0} (len : ℕ) (xs : List X) → len ≤ length xs → None ≡ remove_answer len xs → take len xs ≡ []
no_slot {X} len xs in' e = empty (take len xs) (e ∙ cond-true (leb len (length xs)) (first_of (take len xs)) None (le-leb _ _ in'))
  where
    empty : (ys : List X) → None ≡ first_of ys → ys ≡ []
    empty [] e = refl
    empty (y ∷ ys) e = let z : ◌≡◌ {A = ℕ} 0 1 = cc in absurd (omega arith)

module _ {X : Type 0} (fields : X → List ℕ) (ahead : X → X → Bool) (o : IsStrictWeakOrder ahead) (alike : (x y : X) → ahead x y ≡ false → ahead y x ≡ false → fields x ≡ fields y) where
  -- x is written behind the first n slots, and sifted up
  module _ (xs : List X) (n m : ℕ) (x : X) (is : m ≡ n + 1) (in' : n < length xs) where
    long : length (take m (set xs n x)) ≡ n + 1
    long = length-take-le m (set xs n x) (omega (arith, length-set xs n x)) ∙ is

    was : length (take n xs) ≡ n
    was = length-take-le n xs (omega arith)

    kept : (k : ℕ) (d : X) → k < n → get_or (take m (set xs n x)) k d ≡ get_or (take n xs) k d
    kept k d l = get_or-take m (set xs n x) k d (omega arith) ∙ get_or-set_other xs n k x d (omega arith) ∙ sym (get_or-take n xs k d l)

    grows : Heaped ahead (take n xs) → Rising ahead (take m (set xs n x)) (length (take m (set xs n x)) - 1)
    grows h = let e = long in let f = was in (
      λ k d a b u. by ahead (kept k d (omega arith)) (kept ((k - 1) / 2) d (omega arith)) (to_parents ahead (take n xs) h k d a (omega arith)),
      λ k d a b u z. absurd (omega arith),
    )

    pub grown : (ys : List X) → (Rising ahead (take m (set xs n x)) (length (take m (set xs n x)) - 1) → Heaped ahead ys) → IsPermutation (take m (set xs n x)) ys → length ys ≡ length (take m (set xs n x)) → Added fields ahead x n xs (ys ++ drop m (set xs n x))
    grown ys h s e =
        let L = ys ++ drop m (set xs n x) in
        let t : take (n + 1) L ≡ ys = take_at ys _ (n + 1) (e ∙ long) in
        let w : take m (set xs n x) ≡ take n xs ++ x ∷ [] = ap (λ i. take i (set xs n x)) is ∙ take_more_set xs n x in' in
        let all : IsPermutation (x ∷ take n xs) (take (n + 1) L) = subst (IsPermutation (x ∷ take n xs)) (sym t) (IsPermutation-trans (x ∷ take n xs) (take n xs ++ x ∷ []) ys (IsPermutation-sym _ _ (IsPermutation-to_front (take n xs) x)) (subst (λ l. IsPermutation l ys) w s)) in
        record {
          entries = all;
          heap = λ old. subst (Heaped ahead) (sym t) (h (grows old));
          list = λ distinct. settled ahead o (x ∷ take n xs) (λ a b p q u v. distinct a b p q (alike a b u v)) (take (n + 1) L) all;
          beyond = drop_at ys _ (n + 1) (e ∙ long) ∙ ap (λ i. drop i (set xs n x)) is ∙ drop-set-lt (n + 1) xs n x (omega arith);
        }

  -- the last of the first n slots is written to the first, and sifted down
  module _ (xs : List X) (n m : ℕ) (f l : X) (is : m ≡ n - 1) (some : 0 < n) (in' : n ≤ length xs) (f_is : f ≡ get_or xs 0 f) (l_is : l ≡ get_or xs (n - 1) l) where
    less : length (take m (set xs 0 l)) ≡ n - 1
    less = length-take-le m (set xs 0 l) (omega (arith, length-set xs 0 l)) ∙ is

    whole : length (take n xs) ≡ n
    whole = length-take-le n xs (omega arith)

    rest : (k : ℕ) (d : X) → 0 < k → k < m → get_or (take m (set xs 0 l)) k d ≡ get_or (take n xs) k d
    rest k d z l' = get_or-take m (set xs 0 l) k d l' ∙ get_or-set_other xs 0 k l d (omega arith) ∙ sym (get_or-take n xs k d (omega arith))

    shrinks : Heaped ahead (take n xs) → Sinking ahead (take m (set xs 0 l)) 0
    shrinks h = let e = less in let w = whole in (
      λ k d a b u. by ahead (rest k d a (omega arith)) (rest ((k - 1) / 2) d (omega arith) (omega arith)) (to_parents ahead (take n xs) h k d a (omega arith)),
      λ k d a b u z. absurd (omega arith),
    )

    first_is : f ≡ get_or (take n xs) 0 f
    first_is = f_is ∙ sym (get_or-take n xs 0 f some)

    same : holes.swap_remove (take n xs) 0 f ≡ take m (set xs 0 l)
    same =
        let w = whole in
        let ys = set (take n xs) 0 l in
        let zs = set xs 0 l in
        let long' = length-set (take n xs) 0 l in
        let long'' = length-set xs 0 l in
        let last : get_or (take n xs) (n - 1) f ≡ l = get_or-take n xs (n - 1) f (omega arith) ∙ sym (get_or_read xs (n - 1) l (omega arith) l_is f) in
        let ly : length (take (n - 1) ys) ≡ n - 1 = length-take-le (n - 1) ys (omega arith) in
        ap (λ i. take (i - 1) (set (take n xs) 0 (get_or (take n xs) (i - 1) f))) whole ∙ ap (λ y. take (n - 1) (set (take n xs) 0 y)) last
        ∙ same_lists (take (n - 1) ys) (take m zs) (ly ∙ sym less) (λ k d b. get_or-take (n - 1) ys k d (omega arith) ∙ ⊎_elim
        (λ (e : k ≡ 0). ap (λ i. get_or ys i d) e ∙ get_or-set_same (take n xs) 0 l d (omega arith) ∙ sym (get_or-set_same xs 0 l d (omega arith)) ∙ ap (λ i. get_or zs i d) (sym e))
        (λ (u : k ≡ 0 → ⊥). get_or-set_other (take n xs) 0 k l d u ∙ get_or-take n xs k d (omega arith) ∙ sym (get_or-set_other xs 0 k l d u))
        (which k 0) ∙ sym (get_or-take m zs k d (omega arith)))

    -- the slots from n - 1 on are as they were, also where that is the first one
    same_end : drop m (set xs 0 l) ≡ drop (n - 1) xs
    same_end = ⊎_elim
        (λ (e : n - 1 ≡ 0).
        let first : l ≡ get_or xs 0 l = l_is ∙ ap (λ i. get_or xs i l) e in
        ap (λ i. drop i (set xs 0 l)) (is ∙ e) ∙ unmoved xs first ∙ ap (λ i. drop i xs) (sym e))
        (λ (u : n - 1 ≡ 0 → ⊥). ap (λ i. drop i (set xs 0 l)) is ∙ drop-set-lt (n - 1) xs 0 l (omega arith))
        (which (n - 1) 0)
      where
        unmoved : (zs : List X) → l ≡ get_or zs 0 l → set zs 0 l ≡ zs
        unmoved [] e = refl
        unmoved (z ∷ zs) e = ap (λ y. y ∷ zs) e

    pub shrunk : (ys : List X) → (Sinking ahead (take m (set xs 0 l)) 0 → Heaped ahead ys) → IsPermutation (take m (set xs 0 l)) ys → length ys ≡ length (take m (set xs 0 l)) → Removed fields ahead f n xs (ys ++ drop m (set xs 0 l))
    shrunk ys h s e =
        let L = ys ++ drop m (set xs 0 l) in
        let t : take (n - 1) L ≡ ys = take_at ys _ (n - 1) (e ∙ less) in
        let w = whole in
        let all : IsPermutation (take n xs) (f ∷ take (n - 1) L) = subst (λ k. IsPermutation (take n xs) (f ∷ k)) (sym t) (IsPermutation-trans (take n xs) (f ∷ take m (set xs 0 l)) (f ∷ ys) (subst (λ k. IsPermutation (take n xs) (f ∷ k)) same (taken_at (take n xs) 0 f (omega arith) first_is)) (IsPermutation-cons f _ ys s)) in
        record {
          entries = all;
          heap = λ old. subst (Heaped ahead) (sym t) (h (shrinks old));
          list = λ old distinct. led ahead o f (take n xs) (take (n - 1) L) (λ a b p q u v. distinct a b p q (alike a b u v)) (All-from_get_or (λ y. ahead y f ≡ false) (take n xs) f (λ i b. by ahead refl first_is (top ahead o (take n xs) f old i i (omega arith) b))) all;
          beyond = drop_at ys _ (n - 1) (e ∙ less) ∙ same_end;
        }
