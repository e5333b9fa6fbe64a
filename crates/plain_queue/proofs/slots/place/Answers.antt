use Rattle.std.proofs.Common.{sym, ◌∙◌, arith}
use Rattle.ready.specs.Order.{before}
use Rattle.ready.proofs.Lawful.{no_job}
use Rattle.plain_queue.proofs.Ends.{placed_into}
use Rattle.plain_queue.proofs.slots.place.Goals as goal
use Rattle.plain_queue.proofs.slots.place.Goals.{then-loop-free-test+else-is_before, else-loop-free-test}

pub returns : goal.returns
returns c =
    placed_into before c.args.job no_job c.loop-free.slots c.loop-free.free _ (omega arith)
    (λ some. elim c.loop-free-test.branch [
      | then-loop-free-test+else-is_before w ↦ sym w.is_before.ensures ∙ w.if-is_before.false
      | else-loop-free-test w ↦ absurd (omega (arith, w.loop-free-test.false))
    ])
    c.loop-free.invariant.1
