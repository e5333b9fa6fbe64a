-- The list of the releases to come, and what is done to it.
use Rattle.std.specs.Prelude.{cond, List, length, take, Ok, Err, Result, nat_le}
use Rattle.ready.specs.Sorted.{placed, ordered}
use Rattle.heap.specs.declared.release.Release.{Release}
use Rattle.heap.specs.declared.releases.Releases.{Releases}
use Rattle.heap.specs.declared.slots.HeapRefusal.{HeapRefusal}
use Rattle.heap.specs.declared.slots.HeapRefusal.TheVariants.{Full}
use Rattle.heap.specs.Coming.{earlier}

-- the releases to come, the earliest first
unfoldable pub coming : Releases → List Release
coming h = ordered earlier (take h.len h.slots)

-- what an add answers: a refusal where 32 releases wait
abbrev pub coming_answer : List Release → Result Unit HeapRefusal
coming_answer rs = cond (nat_le 32 (length rs)) (Err Full) (Ok tt)

-- the list after an add: with the release at its place, or as it was where it is refused
abbrev pub coming_list : Release → List Release → List Release
coming_list r rs = cond (nat_le 32 (length rs)) rs (placed earlier r rs)
