use Rattle.std.proofs.Common.{subst}
use Rattle.rules.specs.Accounts.{NumbersFit}
use Rattle.duty_bench.specs.Model.{bench_of}
use Rattle.duty_bench.proofs.Reaching.{fits_of}
use Rattle.duty_bench.proofs.bench.Bench.first_waiting.Goals as goal

pub returns-clause-fits : goal.returns-clause-fits
returns-clause-fits g c =
    subst (λ b. NumbersFit b.rows b.state) c.self.view_is
    (fits_of (bench_of g.Q.ReadyQueue.waiting c.self.inside.judged c.self.inside.parts) c.self.invariant.reached)
