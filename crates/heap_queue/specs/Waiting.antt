-- What a heap queue means.
use Rattle.std.specs.Prelude.{List, take}
use Rattle.ready.specs.declared.job.Job.{Job}
use Rattle.ready.specs.Order.{before}
use Rattle.ready.specs.Sorted.{ordered}
use Rattle.heap_queue.specs.declared.queue.HeapQueue.{HeapQueue}

-- the jobs that wait, most urgent first
unfoldable pub waiting_jobs : HeapQueue → List Job
waiting_jobs q = ordered before (take q.len q.slots)
