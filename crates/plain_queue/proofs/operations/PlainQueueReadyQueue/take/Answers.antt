use Rattle.std.proofs.Common.{sym, ap, subst, arith}
use mathlib.Core.Logic.{∥∥₁_map}
use Rattle.ready.specs.Waiting.{Lawful, rest_of}
use Rattle.ready.proofs.Lawful.{lawful_rest}
use Rattle.plain_queue.proofs.Ends.{first_and_rest}
use Rattle.plain_queue.proofs.operations.PlainQueueReadyQueue.take.Goals as goal

pub invariant_of-self : goal.invariant_of-self
invariant_of-self c =
    let q = c.args.self.now in
    let list = first_and_rest q.count q.slots c.in_ok-job.job (omega arith) c.in_ok-job.ensures in
    record { sized = q.sized; within = omega arith; lawful = ∥∥₁_map q.lawful (λ l. subst Lawful (ap rest_of list) (lawful_rest _ l)) }

pub returns-clause-list : goal.returns-clause-list
returns-clause-list c =
    let q = c.args.self.now in
    sym (ap rest_of (first_and_rest q.count q.slots c.in_ok-job.job (omega arith) c.in_ok-job.ensures))
