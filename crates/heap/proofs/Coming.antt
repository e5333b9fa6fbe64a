-- What the calls on coming releases answer and leave.
use Rattle.std.proofs.Common.{◌≡◌, ℕ, ◌≤◌, Bool, true, false, cond, leb, List, length, take, Ok, Err, Result, refl, ◌∙◌, arith}
use Rattle.std.proofs.lemmas.List.{length-take-le}
use Rattle.std.proofs.lemmas.Bool.Decides.{nat_tests}
use Rattle.ready.specs.Sorted.{placed, ordered}
use Rattle.ready.proofs.Orderings.{length_ordered}
use Rattle.heap.specs.declared.release.Release.{Release}
use Rattle.heap.specs.declared.slots.HeapRefusal.{HeapRefusal}
use Rattle.heap.specs.declared.slots.HeapRefusal.TheVariants.{Full}
use Rattle.heap.specs.Coming.{earlier}
use Rattle.heap.specs.Heaps.{add_answer}
use Rattle.heap.specs.Releases.{coming_answer}

-- as many releases are to come as slots are in use
length_coming : (slots : List Release) (len : ℕ) → len ≤ length slots → length (ordered earlier (take len slots)) ≡ len
length_coming slots len l = length_ordered earlier (take len slots) ∙ length-take-le len slots l

at_32 : (slots len count : ℕ) → slots ≡ 32 → count ≡ len → len ≤ 32 → add_answer 32 slots len ≡ cond (leb 32 count) (Err Full) (Ok tt)
at_32 slots len count p q l = grind (arith, nat_tests)

-- the heap has room just where fewer than 32 are to come
pub same_answer : (slots : List Release) (len : ℕ) → length slots ≡ 32 → len ≤ 32 → add_answer 32 (length slots) len ≡ coming_answer (ordered earlier (take len slots))
same_answer slots len p l = at_32 (length slots) len (length (ordered earlier (take len slots))) p (length_coming slots len (omega arith)) l

pub list_taken : (r : Release) (rs : List Release) (b : Bool) → Ok tt ≡ cond {A = Result Unit HeapRefusal} b (Err Full) (Ok tt) → placed earlier r rs ≡ cond b rs (placed earlier r rs)
list_taken r rs true e = let z : ◌≡◌ {A = ℕ} 0 1 = cc in absurd (omega arith)
list_taken r rs false e = refl

pub list_refused : (r : Release) (rs : List Release) (x : HeapRefusal) (b : Bool) → Err x ≡ cond {A = Result Unit HeapRefusal} b (Err Full) (Ok tt) → rs ≡ cond b rs (placed earlier r rs)
list_refused r rs x true e = refl
list_refused r rs x false e = let z : ◌≡◌ {A = ℕ} 0 1 = cc in absurd (omega arith)
