use Rattle.std.proofs.Common.{refl}
use Rattle.heap_queue.specs.Waiting.{waiting_jobs}
use Rattle.heap_queue.proofs.queue.operations.HeapQueueReadyQueue.clear.Goals as goal

pub returns : goal.returns
unfolding waiting_jobs
returns c = refl
