use Rattle.std.proofs.Common.{rules, sym, subst}
use Rattle.rules.specs.Accounts.{NumbersFit}
use Rattle.rules.specs.Promises.{Promised}
use Rattle.rules.specs.Run.{closing_of}
use Rattle.duty_bench.specs.Model.{bench_of}
use Rattle.duty_bench.proofs.Reaching.{promised_of, fits_of}
use Rattle.duty_bench.proofs.bench.Bench.close.Goals as goal

pub returns-clause-closing : goal.returns-clause-closing
returns-clause-closing g c = search rules

pub returns-clause-promised : goal.returns-clause-promised
returns-clause-promised g c =
    subst (Promised c.args.self.rows) (sym (returns-clause-closing g c))
    (subst (λ b. Promised b.rows (closing_of b.state)) c.self.view_is
    (promised_of (bench_of g.Q.ReadyQueue.waiting c.self.inside.judged c.self.inside.parts) c.self.invariant.reached))

pub returns-clause-fits : goal.returns-clause-fits
returns-clause-fits g c =
    subst (λ b. NumbersFit b.rows b.state) c.self.view_is
    (fits_of (bench_of g.Q.ReadyQueue.waiting c.self.inside.judged c.self.inside.parts) c.self.invariant.reached)
