use Rattle.std.proofs.Common.{◌≡◌, ◌-◌, ◌<◌, length}
use Rattle.std.specs.List.Sorted.{IsPermutation}
use Rattle.heap.specs.Sifts.{Rising}
use Rattle.heap.proofs.slots.sift_up.Given as goal

abbrev pub invariant-loop-at : goal.invariant-loop-at
invariant-loop-at g l =
    (l.«at» < length l.heap)
    × (length l.heap ≡ length l.initial.heap)
    × (Rising g.T.HeapEntry.ahead l.initial.heap (length l.initial.heap - 1) → Rising g.T.HeapEntry.ahead l.heap l.«at»)
    × IsPermutation l.initial.heap l.heap

abbrev pub decreases-loop-at : goal.decreases-loop-at
decreases-loop-at g l = l.«at»
