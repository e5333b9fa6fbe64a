use Rattle.std.proofs.Common.{◌≡◌, ◌≤◌, length}
use Rattle.program.proofs.run.fill.Given as goal

-- what is read lies within the buffer
abbrev pub invariant-loop : goal.invariant-loop
invariant-loop g l = (length l.buffer ≡ 913) × (l.count ≤ 913)
