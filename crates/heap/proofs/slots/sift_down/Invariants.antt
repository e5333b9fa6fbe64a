use Rattle.std.proofs.Common.{◌≡◌, ◌-◌, length}
use Rattle.std.specs.List.Sorted.{IsPermutation}
use Rattle.heap.specs.Sifts.{Sinking}
use Rattle.heap.proofs.slots.sift_down.Given as goal

abbrev pub invariant-loop-at : goal.invariant-loop-at
invariant-loop-at g l =
    (length l.heap ≡ length l.initial.heap)
    × (Sinking g.T.HeapEntry.ahead l.initial.heap 0 → Sinking g.T.HeapEntry.ahead l.heap l.«at»)
    × IsPermutation l.initial.heap l.heap

abbrev pub decreases-loop-at : goal.decreases-loop-at
decreases-loop-at g l = length l.initial.heap - l.«at»
