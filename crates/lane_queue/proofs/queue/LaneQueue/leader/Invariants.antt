use Rattle.std.proofs.Common.{◌≡◌, ℕ, ◌^◌, ◌<◌, ◌≤◌}
use Rattle.lane_queue.specs.Words.{bit}
use Rattle.lane_queue.proofs.Leading.{Compared}
use Rattle.lane_queue.proofs.queue.LaneQueue.leader.Given as goal

abbrev pub invariant-loop-word : goal.invariant-loop-word
invariant-loop-word l =
    (l.word < 2 ^ 32) × (l.best < 32) × (bit l.best l.self.used ≡ 1)
    × ((k : ℕ) → bit k l.word ≤ bit k l.self.used)
    × Compared l.self.lanes l.self.used l.word l.best

abbrev pub decreases-loop-word : goal.decreases-loop-word
decreases-loop-word l = l.word
