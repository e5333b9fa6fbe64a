use Rattle.std.proofs.Common.{take, sym, ◌∙◌, arith}
use Rattle.std.proofs.lemmas.List.{length-take-le}
use Rattle.ready.specs.Order.{before}
use Rattle.ready.proofs.Orderings.{length_ordered}
use Rattle.heap_queue.specs.Waiting.{waiting_jobs}
use Rattle.heap_queue.proofs.queue.operations.HeapQueueReadyQueue.count.Goals as goal

pub returns : goal.returns
unfolding waiting_jobs
returns c =
    let q = c.args.self.now in
    sym (length_ordered before (take q.len q.slots) ∙ length-take-le q.len q.slots (omega (arith, q.whole, q.within)))
