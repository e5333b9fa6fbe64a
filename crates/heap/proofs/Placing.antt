-- The list in order: it does not depend on the order that its entries came in.
use Rattle.std.proofs.Common.{◌≡◌, ℕ, zero, suc, ◌<◌, Bool, true, false, cond, List, [], ◌∷◌, length, get_or, set, sym, refl, ap, ◌∙◌, subst, ⊎_elim, arith}
use Rattle.std.specs.List.{ContainsAt, AllByRecursion, swap, slice_get}
use Rattle.std.specs.List.Sorted.{IsPermutation}
use Rattle.std.specs.Cmp.{IsStrictWeakOrder}
use Rattle.std.proofs.ByRecursion.{All-get_or, All-set, all_has_itself, All-from_get_or, all_shuffled}
use Rattle.std.proofs.lemmas.List.{length-set, get_or-set_same, get_or-set_other, nil_from_length}
use Rattle.std.proofs.lemmas.List.Edits.{swap_is}
use Rattle.std.proofs.lemmas.List.Sorted.{IsPermutation-keeps, length_permutation}
use Rattle.std.proofs.lemmas.Bool.{both_ways}
use Rattle.std.proofs.Permutation.{which, as_core}
use Rattle.ready.specs.Sorted.{placed, ordered}
use Rattle.ready.specs.Waiting.{first_of}
use Rattle.ready.proofs.Orderings.{placed_foremost, length_placed, all_ordered, Apart, placed_placed}
use Rattle.heap.specs.Heaps.{Heaped}
use Rattle.heap.proofs.Sifting.{never, top}

module _ {X : Type 0} (ahead : X → X → Bool) (o : IsStrictWeakOrder ahead) where
  -- the entry in the first slot of a heap is the first in order
  pub heads : (xs : List X) → Heaped ahead xs → first_of (ordered ahead xs) ≡ first_of xs
  heads [] h = refl
  heads (x ∷ xs) h =
      let P : X → Type 0 = λ y. ahead y x ≡ false in
      ap first_of (placed_foremost ahead x (ordered ahead xs) (all_ordered ahead P xs (All-from_get_or P xs x (λ i b. top ahead o (x ∷ xs) x h (suc i) (suc i) (omega arith) (omega arith)))))

  -- so what is read in the first slot is the first in order
  pub reads_first : (xs : List X) → Heaped ahead xs → slice_get xs 0 ≡ first_of (ordered ahead xs)
  reads_first [] h = refl
  reads_first (x ∷ xs) h = sym (heads (x ∷ xs) h)

  itself : {G : Type 0} (x : X) → ahead x x ≡ true → G
  itself x e = absurd (both_ways (ahead x x) (never ahead o x) e)

  less : (b u v : X) (us vs : List X) (bu bv : Bool) → ahead u b ≡ bu → ahead v b ≡ bv → (placed ahead b us ≡ placed ahead b vs → us ≡ vs) → cond bu (u ∷ placed ahead b us) (b ∷ u ∷ us) ≡ cond bv (v ∷ placed ahead b vs) (b ∷ v ∷ vs) → u ∷ us ≡ v ∷ vs
  less b u v us vs true true p q f e = let t : placed ahead b us ≡ placed ahead b vs = cc in let ih = f t in cc
  less b u v us vs true false p q f e = let w : u ≡ b = cc in itself b (ap (λ a. ahead a b) (sym w) ∙ p)
  less b u v us vs false true p q f e = let w : v ≡ b = cc in itself b (ap (λ a. ahead a b) (sym w) ∙ q)
  less b u v us vs false false p q f e = cc

  cancel : (b : X) (us vs : List X) → placed ahead b us ≡ placed ahead b vs → us ≡ vs
  cancel b [] [] e = refl
  cancel b [] (v ∷ vs) e = absurd (omega (arith, ap length e, length_placed ahead b (v ∷ vs)))
  cancel b (u ∷ us) [] e = absurd (omega (arith, ap length e, length_placed ahead b (u ∷ us)))
  cancel b (u ∷ us) (v ∷ vs) e = less b u v us vs (ahead u b) (ahead v b) refl refl (cancel b us vs) e

  module _ (D : X → Type 0) (clear : (a b : X) → D a → D b → Apart ahead a b) where
    replaced : (xs : List X) (i : ℕ) (b d : X) → i < length xs → D b → AllByRecursion D xs → placed ahead (get_or xs i d) (ordered ahead (set xs i b)) ≡ placed ahead b (ordered ahead xs)
    replaced [] i b d l p h = absurd (omega arith)
    replaced (x ∷ xs) zero b d l p h = placed_placed ahead o.one_way o.chain x b (clear x b h.0 p) (ordered ahead xs)
    replaced (x ∷ xs) (suc i) b d l p h =
        placed_placed ahead o.one_way o.chain (get_or xs i d) x (clear _ x (All-get_or D xs i d (omega arith) h.1) h.0) (ordered ahead (set xs i b))
        ∙ ap (placed ahead x) (replaced xs i b d (omega arith) p h.1)
        ∙ placed_placed ahead o.one_way o.chain x b (clear x b h.0 p) (ordered ahead xs)

    exchange : (xs : List X) (i j : ℕ) (d : X) → i < length xs → j < length xs → AllByRecursion D xs → ordered ahead (set (set xs i (get_or xs j d)) j (get_or xs i d)) ≡ ordered ahead xs
    exchange xs i j d p q h =
        let a = get_or xs i d in
        let b = get_or xs j d in
        let ys = set xs i b in
        let Da = All-get_or D xs i d p h in
        let Db = All-get_or D xs j d q h in
        let long = length-set xs i b in
        let q' : j < length ys = omega arith in
        let same : get_or ys j d ≡ b = ⊎_elim (λ (e : j ≡ i). ap (λ m. get_or ys m d) e ∙ get_or-set_same xs i b d p) (λ (u : j ≡ i → ⊥). get_or-set_other xs i j b d u) (which j i) in
        cancel b _ _ (ap (λ y. placed ahead y (ordered ahead (set ys j a))) (sym same) ∙ replaced ys j a d q' Da (All-set D xs i b Db h) ∙ replaced xs i b d p Db h)

  -- the same entries in another order are the same list in order
  pub settled : (xs : List X) → ((a b : X) → ContainsAt xs a → ContainsAt xs b → Apart ahead a b) → (ys : List X) → IsPermutation xs ys → ordered ahead ys ≡ ordered ahead xs
  settled [] clear ys s = ap (ordered ahead) (nil_from_length ys (length_permutation [] ys s))
  settled (d ∷ xs) clear ys s =
      let D = ContainsAt (d ∷ xs) in
      (IsPermutation-keeps (d ∷ xs) (λ l. AllByRecursion D l × (ordered ahead l ≡ ordered ahead (d ∷ xs))) (all_has_itself (d ∷ xs), refl)
      (λ l i j p q h.
      let is : set (set l i (get_or l j d)) j (get_or l i d) ≡ swap l i j = swap_is l i j d p q ∙ as_core l i j in (
        subst (AllByRecursion D) is (All-set D _ j _ (All-get_or D l i d p h.0) (All-set D l i _ (All-get_or D l j d q h.0) h.0)),
        ap (ordered ahead) (sym is) ∙ exchange D clear l i j d p q h.0 ∙ h.1,
      ))
      ys s).1

  -- an entry that comes first, and the others, are the list in order
  pub led : (x : X) (xs ys : List X) → ((a b : X) → ContainsAt xs a → ContainsAt xs b → Apart ahead a b) → AllByRecursion (λ y. ahead y x ≡ false) xs → IsPermutation xs (x ∷ ys) → ordered ahead xs ≡ x ∷ ordered ahead ys
  led x xs ys clear first s =
      let P : X → Type 0 = λ y. ahead y x ≡ false in
      sym (settled xs clear (x ∷ ys) s) ∙ placed_foremost ahead x (ordered ahead ys) (all_ordered ahead P ys (all_shuffled P xs (x ∷ ys) s first).1)
