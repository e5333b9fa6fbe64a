-- Urgency.
use Rattle.std.specs.Prelude.{Bool, cond, ◌==◌, nat_lt}
use Rattle.ready.specs.declared.job.Job.{Job}

-- a is more urgent than b: its key is smaller, or at equal keys its task, or at equal tasks its number
abbrev pub before : Job → Job → Bool
before a b =
    cond (a.key == b.key)
    (cond (a.task == b.task) (nat_lt a.number b.number) (nat_lt a.task b.task))
    (nat_lt a.key b.key)
