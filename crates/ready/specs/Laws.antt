-- What is true of urgency and of waiting lists, whatever queue holds them.
use Rattle.std.specs.Prelude.{◌≡◌, ◌+◌, ◌≤◌, Bool, true, cond, not, List, length, count_by}
use Rattle.ready.specs.declared.job.Job.{Job}
use Rattle.ready.specs.Order.{before}
use Rattle.ready.specs.Sorted.{placed}
use Rattle.ready.specs.Waiting.{rest_of, put_list, Lawful}

-- two jobs differ in key, task or number
abbrev pub Differ : Job → Job → Type 0
Differ a b = (a.key ≡ b.key) × (a.task ≡ b.task) × (a.number ≡ b.number) → ⊥

-- of two jobs that differ in key, task or number just one is before the other
abbrev pub JustOneBefore : Type 0
JustOneBefore = (a b : Job) → Differ a b → before b a ≡ not (before a b)

-- before passes along a chain
abbrev pub BeforeChains : Type 0
BeforeChains = (a b c : Job) → before a b ≡ true → before b c ≡ true → before a c ≡ true

-- placing a job adds that job, and loses and adds no other
abbrev pub PlacedAdds : Type 0
PlacedAdds = (counted : Job → Bool) (j : Job) (js : List Job) → count_by counted (placed before j js) ≡ cond (counted j) 1 0 + count_by counted js

-- a put onto a lawful list leaves a lawful list
abbrev pub PutKeepsLawful : Type 0
PutKeepsLawful = (j : Job) (js : List Job) → Lawful js → Lawful (put_list j js)

-- taking the first job of a lawful list leaves a lawful list
abbrev pub TakeKeepsLawful : Type 0
TakeKeepsLawful = (js : List Job) → Lawful js → Lawful (rest_of js)

-- a lawful list has at most four jobs of each of 32 tasks
abbrev pub AtMost128 : Type 0
AtMost128 = (js : List Job) → Lawful js → length js ≤ 128
