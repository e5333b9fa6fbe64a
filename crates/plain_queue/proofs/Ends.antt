-- The last slots in use.
use Rattle.std.proofs.Common.{◌≡◌, ℕ, zero, suc, Some, ◌+◌, ◌-◌, ◌<◌, ◌≤◌, Bool, false, ◌⊎◌, List, [], ◌∷◌, ◌++◌, reverse, length, get_or, take, drop, set, sym, refl, ap, ◌∙◌, inl, inr, append_assoc, add-one, arith}
use mathlib.Core.List.{reverse-cons, reverse-append}
use Rattle.std.proofs.lemmas.List.{take_more, set_split, length-reverse, length-take-le}
use Rattle.std.proofs.lemmas.Bool.{cases_lt}
use Rattle.ready.specs.Sorted.{placed}
use Rattle.ready.specs.Waiting.{first_of}
use Rattle.ready.proofs.Orderings as orderings

module _ {X : Type 0} where
  -- the last in use comes first
  pub reverse_take : (n : ℕ) (xs : List X) (d : X) → 0 < n → n ≤ length xs → reverse (take n xs) ≡ get_or xs (n - 1) d ∷ reverse (take (n - 1) xs)
  reverse_take n xs d h l =
      let back : n - 1 + 1 ≡ n = omega arith in
      ap (λ m. reverse (take m xs)) (sym back) ∙ ap reverse (take_more xs (n - 1) d (omega arith)) ∙ reverse-append (take (n - 1) xs) (get_or xs (n - 1) d ∷ [])

  -- what was found to come first, and the others
  pub first_and_rest : (n : ℕ) (xs : List X) (x : X) → n ≤ length xs → Some x ≡ first_of (reverse (take n xs)) → reverse (take n xs) ≡ x ∷ reverse (take (n - 1) xs)
  first_and_rest zero xs x l e = let z : ◌≡◌ {A = ℕ} 0 1 = cc in absurd (omega arith)
  first_and_rest (suc n) xs x l e =
      let last = reverse_take (suc n) xs x (omega arith) l in
      let same : Some x ≡ Some (get_or xs (suc n - 1) x) = e ∙ ap first_of last in
      let is : get_or xs (suc n - 1) x ≡ x = cc in
      last ∙ ap (λ y. y ∷ reverse (take (suc n - 1) xs)) is

  pub length_reverse_take : (n : ℕ) (xs : List X) → n ≤ length xs → length (reverse (take n xs)) ≡ n
  length_reverse_take n xs l = length-reverse (take n xs) ∙ length-take-le n xs l

  module _ (ahead : X → X → Bool) where
    -- nothing below the free slot is ahead: x belongs into it
    pub placed_into : (x d : X) (xs : List X) (free : ℕ) (all : List X) → free < length xs → (0 < free → ahead (get_or xs (free - 1) d) x ≡ false) → reverse (drop (free + 1) xs) ++ placed ahead x (reverse (take free xs)) ≡ all → reverse (set xs free x) ≡ all
    placed_into x d xs free all in_range e inv =
        let split : set xs free x ≡ take free xs ++ x ∷ drop (free + 1) xs = rw add-one (set_split xs free x in_range) in
        let turned : reverse (x ∷ drop (free + 1) xs) ++ reverse (take free xs) ≡ reverse (drop (free + 1) xs) ++ x ∷ reverse (take free xs) = ap (λ l. l ++ reverse (take free xs)) (reverse-cons x (drop (free + 1) xs)) ∙ append_assoc (reverse (drop (free + 1) xs)) (x ∷ []) (reverse (take free xs)) in
        ap reverse split ∙ reverse-append (take free xs) (x ∷ drop (free + 1) xs) ∙ turned ∙ ap (λ l. reverse (drop (free + 1) xs) ++ l) (sym (on_top (cases_lt 0 free))) ∙ inv
      where
        on_top : (0 < free) ⊎ (free ≤ 0) → placed ahead x (reverse (take free xs)) ≡ x ∷ reverse (take free xs)
        on_top (inl some) =
            let top = reverse_take free xs d some (omega arith) in
            ap (placed ahead x) top ∙ orderings.placed_here ahead x (get_or xs (free - 1) d) _ (e some) ∙ ap (λ l. x ∷ l) (sym top)
        on_top (inr none) = let z : free ≡ 0 = omega arith in rw z refl
