-- What the slots of a queue mean.
use Rattle.std.specs.Prelude.{ℕ, List, reverse, take}
use Rattle.ready.specs.declared.job.Job.{Job}

-- the jobs in the first `count` slots, the last of them first
abbrev pub last_first : ℕ → List Job → List Job
last_first count slots = reverse (take count slots)
