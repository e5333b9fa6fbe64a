use Rattle.std.proofs.Common.{◌≡◌, ◌+◌, ◌-◌, length}
use Rattle.verdict.specs.Test.{first_failing, load_to, shortfall_to, verdict_of}
use Rattle.verdict.proofs.test.verdict.Given as goal

-- the sums are those of the rows so far, and the rows still to come decide
abbrev pub invariant-loop-i : goal.invariant-loop-i
invariant-loop-i l =
    (l.sum_load ≡ load_to l.i l.rows) ×
    (l.sum_shortfall ≡ shortfall_to l.i l.rows) ×
    (verdict_of l.rows ≡ first_failing (length l.rows - l.i) (l.i + 1) l.rows)
