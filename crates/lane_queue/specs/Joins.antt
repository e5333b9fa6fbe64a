-- The jobs of all lanes, cut at one lane.
use Rattle.std.specs.Prelude.{◌≡◌, ℕ, zero, suc, ◌<◌, List, [], ◌∷◌, ◌++◌, length, take, drop, slice_index_or, slice_set, refl}
use Rattle.std.proofs.Common.{sym, ap, ◌∙◌, arith}
use Rattle.std.specs.List.{flat_map, AllByRecursion}
use Rattle.std.proofs.lemmas.List.{append_assoc}
use Rattle.std.proofs.ByRecursion.{All-append}

module _ {L X : Type 0} (f : L → List X) where
  pub joined_cut : (ls : List L) (i : ℕ) (d : L) → i < length ls → flat_map f ls ≡ flat_map f (take i ls) ++ (f (slice_index_or ls i d) ++ flat_map f (drop (suc i) ls))
  joined_cut [] i d l = absurd (omega arith)
  joined_cut (m ∷ ls) zero d l = refl
  joined_cut (m ∷ ls) (suc i) d l = ap (λ r. f m ++ r) (joined_cut ls i d (omega arith)) ∙ sym (append_assoc (f m) (flat_map f (take i ls)) _)

  pub joined_set : (ls : List L) (i : ℕ) (m : L) → i < length ls → flat_map f (slice_set ls i m) ≡ flat_map f (take i ls) ++ (f m ++ flat_map f (drop (suc i) ls))
  joined_set [] i m l = absurd (omega arith)
  joined_set (k ∷ ls) zero m l = refl
  joined_set (k ∷ ls) (suc i) m l = ap (λ r. f k ++ r) (joined_set ls i m (omega arith)) ∙ sym (append_assoc (f k) (flat_map f (take i ls)) _)

  pub all_joined : (P : X → Type 0) (ls : List L) → AllByRecursion (λ l. AllByRecursion P (f l)) ls → AllByRecursion P (flat_map f ls)
  all_joined P [] h = tt
  all_joined P (l ∷ ls) h = All-append P (f l) (flat_map f ls) h.0 (all_joined P ls h.1)

  pub joined_none : (ls : List L) → AllByRecursion (λ l. f l ≡ []) ls → flat_map f ls ≡ []
  joined_none [] h = refl
  joined_none (l ∷ ls) h = ap (λ r. r ++ flat_map f ls) h.0 ∙ joined_none ls h.1
