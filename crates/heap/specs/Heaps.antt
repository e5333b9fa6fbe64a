-- A heap in the first slots of a list. The parent of the entry at k + 1 stands at k / 2.
use Rattle.std.specs.Prelude.{◌≡◌, ℕ, ◌+◌, ◌-◌, ◌/◌, ◌<◌, Bool, false, cond, ◌&&◌, List, ◌∷◌, length, take, drop, None, Ok, Err, Option, Result, nat_le, nat_lt, slice_index_or}
use Rattle.std.specs.List.{ContainsAt}
use Rattle.std.specs.List.Sorted.{IsPermutation}
use Rattle.ready.specs.Sorted.{placed, ordered}
use Rattle.ready.specs.Waiting.{first_of}
use Rattle.heap.specs.declared.slots.HeapRefusal.{HeapRefusal}
use Rattle.heap.specs.declared.slots.HeapRefusal.TheVariants.{Full}

-- no entry comes before its parent
abbrev pub Heaped : {X : Type 0} → (X → X → Bool) → List X → Type 0
Heaped {X} ahead xs = (k : ℕ) (d : X) → k + 1 < length xs → ahead (slice_index_or xs (k + 1) d) (slice_index_or xs (k / 2) d) ≡ false

-- entries that agree in their order fields are equal
abbrev pub Distinct : {X : Type 0} → (X → List ℕ) → List X → Type 0
Distinct {X} fields xs = (a b : X) → ContainsAt xs a → ContainsAt xs b → fields a ≡ fields b → a ≡ b

-- what an add answers where `len` of the slots are in use and `room` entries can wait
abbrev pub add_answer : ℕ → ℕ → ℕ → Result Unit HeapRefusal
add_answer room slots len = cond (nat_lt len room && nat_lt len slots) (Ok tt) (Err Full)

-- what an add of x did to the slots
pub record Added {X : Type 0} (fields : X → List ℕ) (ahead : X → X → Bool) (x : X) (len : ℕ) (old new : List X) : Type 0 where
  -- the entries are those that were there, and x
  pub entries : IsPermutation (x ∷ take len old) (take (len + 1) new)
  -- a heap stays a heap
  pub heap : Heaped ahead (take len old) → Heaped ahead (take (len + 1) new)
  -- in order, x stands at its place among the others
  pub list : Distinct fields (x ∷ take len old) → ordered ahead (take (len + 1) new) ≡ placed ahead x (ordered ahead (take len old))
  -- the slots beyond are as they were
  pub beyond : drop (len + 1) new ≡ drop (len + 1) old

-- what a removal answers: the entry in the first slot, or none where no slot is in use or `len` is past the slots
abbrev pub remove_answer : {X : Type 0} → ℕ → List X → Option X
remove_answer len xs = cond (nat_le len (length xs)) (first_of (take len xs)) None

-- what a removal of x did to the slots
pub record Removed {X : Type 0} (fields : X → List ℕ) (ahead : X → X → Bool) (x : X) (len : ℕ) (old new : List X) : Type 0 where
  -- the entries are those that were there, without x
  pub entries : IsPermutation (take len old) (x ∷ take (len - 1) new)
  -- a heap stays a heap
  pub heap : Heaped ahead (take len old) → Heaped ahead (take (len - 1) new)
  -- x was the first in order, and the others are the rest
  pub list : Heaped ahead (take len old) → Distinct fields (take len old) → ordered ahead (take len old) ≡ x ∷ ordered ahead (take (len - 1) new)
  -- the slots beyond are as they were
  pub beyond : drop (len - 1) new ≡ drop (len - 1) old
