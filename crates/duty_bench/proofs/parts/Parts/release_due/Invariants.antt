use Rattle.std.proofs.Common.{◌≡◌}
use Rattle.rules.specs.Release.{released}
use Rattle.duty_bench.specs.Model.{state_of}
use Rattle.duty_bench.specs.Awaited.{Awaits}
use Rattle.duty_bench.specs.Bounds.{Midway}
use Rattle.duty_bench.proofs.Due.{due_count}
use Rattle.duty_bench.proofs.parts.Parts.release_due.Given as goal

-- what is left to release makes the state that the whole makes from the start
abbrev pub invariant-loop-task : goal.invariant-loop-task
invariant-loop-task g l =
    (released l.rows (state_of g.Q.ReadyQueue.waiting l.self) ≡ released l.rows (state_of g.Q.ReadyQueue.waiting l.initial.self))
    × Midway 0 l.self
    × Awaits l.rows l.self.tasks l.self.clock l.coming

abbrev pub decreases-loop-task : goal.decreases-loop-task
decreases-loop-task g l = due_count l.rows (state_of g.Q.ReadyQueue.waiting l.self)
