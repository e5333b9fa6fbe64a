use Rattle.std.proofs.Common.{◌≡◌, ◌≤◌, ◌++◌, length, decimal, drop}
use Rattle.duty_log.proofs.text.Text.digits.Given as goal

-- the last digits stand at the end of the array, and those of `rest` belong before them
abbrev pub invariant-loop-rest : goal.invariant-loop-rest
invariant-loop-rest l = (length l.digits ≡ 10) × (l.first ≤ 10) × (decimal l.n ≡ decimal l.rest ++ drop l.first l.digits)

abbrev pub decreases-loop-rest : goal.decreases-loop-rest
decreases-loop-rest l = l.rest
