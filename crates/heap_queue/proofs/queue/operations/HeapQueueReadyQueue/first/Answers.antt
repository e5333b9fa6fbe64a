use Rattle.std.proofs.Common.{take, ◌∙◌}
use Rattle.ready.specs.Order.{before}
use Rattle.heap.proofs.EntryKinds.{job_order}
use Rattle.heap.proofs.Placing.{reads_first}
use Rattle.heap_queue.specs.Waiting.{waiting_jobs}
use Rattle.heap_queue.proofs.queue.operations.HeapQueueReadyQueue.first.Goals as goal

pub returns : goal.returns
unfolding waiting_jobs
returns c =
    let q = c.args.self.now in
    c.copied.ensures ∙ c.first.ensures.value ∙ reads_first before job_order (take q.len q.slots) q.heaped
