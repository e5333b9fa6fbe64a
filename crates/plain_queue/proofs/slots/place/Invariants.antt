use Rattle.std.proofs.Common.{◌≡◌, ◌+◌, ◌-◌, ◌<◌, ◌++◌, reverse, length, take, drop}
use Rattle.ready.specs.Order.{before}
use Rattle.ready.specs.Sorted.{placed}
use Rattle.plain_queue.proofs.slots.place.Given as goal

-- what stands above the free slot, and the job placed among those below it
abbrev pub invariant-loop-free : goal.invariant-loop-free
invariant-loop-free l =
    (l.free < length l.initial.slots)
    × (reverse (drop (l.free + 1) l.slots) ++ placed before l.job (reverse (take l.free l.slots)) ≡ placed before l.job (reverse (take (length l.initial.slots - 1) l.initial.slots)))

abbrev pub decreases-loop-free : goal.decreases-loop-free
decreases-loop-free l = l.free
