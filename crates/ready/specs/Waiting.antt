-- The list of waiting jobs, and what the operations of a queue do to it.
use Rattle.std.specs.Prelude.{◌≡◌, ℕ, ◌≤◌, Bool, false, cond, ◌&&◌, ◌||◌, List, [], ◌∷◌, Some, None, Ok, Err, count_by, Option, Result, ◌==◌, nat_le, nat_lt}
use Rattle.std.specs.List.{AllByRecursion}
use Rattle.ready.specs.declared.job.Job.{Job}
use Rattle.ready.specs.declared.refusal.PutRefusal.{PutRefusal}
use Rattle.ready.specs.declared.refusal.PutRefusal.TheVariants.{NoSuchTask, AlreadyWaits, FourWait}
use Rattle.ready.specs.Order.{before}
use Rattle.ready.specs.Sorted.{placed, Sorted}

-- the first of the list, or none
abbrev pub first_of : {X : Type 0} → List X → Option X
first_of [] = None
first_of (x ∷ xs) = Some x

-- the list without its first
abbrev pub rest_of : {X : Type 0} → List X → List X
rest_of [] = []
rest_of (x ∷ xs) = xs

-- the job is of that task
abbrev pub of_task : ℕ → Job → Bool
of_task task j = j.task == task

-- it is that job of that task
abbrev pub is_job : ℕ → ℕ → Job → Bool
is_job task number j = j.task == task && j.number == number

-- there is no such task
abbrev pub stray : ℕ → Bool
stray task = task == 0 || nat_lt 32 task

-- what a put answers: the first refusal that applies, else success
abbrev pub put_answer : Job → List Job → Result Unit PutRefusal
put_answer j js =
    cond (stray j.task) (Err NoSuchTask)
    (cond (nat_le 1 (count_by (is_job j.task j.number) js)) (Err AlreadyWaits)
    (cond (nat_le 4 (count_by (of_task j.task) js)) (Err FourWait)
    (Ok tt)))

-- the list after a put that had that answer
abbrev pub put_by : Result Unit PutRefusal → Job → List Job → List Job
put_by (Ok _) j js = placed before j js
put_by (Err _) j js = js

-- the list after a put: with the job at its place, or as it was where the job is refused
abbrev pub put_list : Job → List Job → List Job
put_list j js = put_by (put_answer j js) j js

-- the list of a queue: most urgent first, of tasks 1 to 32, no job twice, at most four jobs of a task
pub record Lawful (js : List Job) : Type 0 where
  pub sorted : Sorted before js
  pub known : AllByRecursion (λ j. stray j.task ≡ false) js
  pub once : (task number : ℕ) → count_by (is_job task number) js ≤ 1
  pub four : (task : ℕ) → count_by (of_task task) js ≤ 4
