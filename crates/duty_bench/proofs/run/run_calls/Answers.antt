use Rattle.std.proofs.Common.{sym, ◌∙◌}
use Rattle.rules.specs.Run.{called}
use Rattle.duty_bench.proofs.Calls.{run_push}
use Rattle.duty_bench.proofs.run.run_calls.Goals as goal

pub loop-call-preserved : goal.loop-call-preserved
loop-call-preserved g c = (
  c.make.ensures.rows ∙ c.loop-call.invariant.0,
  c.make.ensures.state ∙ (λ i. called (c.loop-call.invariant.0 i) c.in-Some.call (c.loop-call.invariant.1 i))
      ∙ sym (run_push c.open-bench.result.rows c.loop-call.yielded c.in-Some.call c.open-bench.result.state),
)
