use Rattle.std.proofs.Common.{◌≡◌}
use Rattle.rules.specs.Run.{run_from}
use Rattle.duty_bench.proofs.run.run_calls.Given as goal

-- the calls so far have been made
abbrev pub invariant-loop-call : goal.invariant-loop-call
invariant-loop-call g l =
    (l.bench.rows ≡ l.initial.bench.rows)
    × (l.bench.state ≡ run_from l.initial.bench.rows l.yielded l.initial.bench.state)
