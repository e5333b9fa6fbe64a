use Rattle.std.proofs.Common.{sym, subst}
use Rattle.rules.specs.State.{State}
use Rattle.duty_bench.specs.Awaited.{Awaits}
use Rattle.duty_bench.specs.Bounds.{Settled}
use Rattle.duty_bench.specs.Model.{state_of}
use Rattle.duty_bench.proofs.Awaiting.{awaits_ticked}
use Rattle.duty_bench.proofs.Works.{settled_ticked}
use Rattle.duty_bench.proofs.parts.Parts.advance.Goals as goal

pub returns-clause-settled : goal.returns-clause-settled
returns-clause-settled g c =
    let m = c.release_due.ensures.midway in
    subst (λ (s : State). Settled s.clock s.tasks) (sym c.tick.ensures.is)
    (settled_ticked c.args.rows.now c.args.letter (state_of g.Q.ReadyQueue.waiting c.release_due.new.self) m.whole m.tasks)

pub returns-clause-awaits : goal.returns-clause-awaits
returns-clause-awaits g c =
    let rows = c.args.rows.now in
    subst (λ (s : State). Awaits rows s.tasks s.clock c.release_due.new.coming) (sym c.tick.ensures.is)
    (awaits_ticked rows c.args.letter (state_of g.Q.ReadyQueue.waiting c.release_due.new.self) c.release_due.new.coming c.release_due.ensures.awaits)
