-- What a plain queue means.
use Rattle.std.specs.Prelude.{List}
use Rattle.ready.specs.declared.job.Job.{Job}
use Rattle.plain_queue.specs.declared.queue.PlainQueue.{PlainQueue}
use Rattle.plain_queue.specs.Slots.{last_first}

-- the jobs that wait, most urgent first
abbrev pub waiting_of : PlainQueue → List Job
waiting_of q = last_first q.count q.slots
