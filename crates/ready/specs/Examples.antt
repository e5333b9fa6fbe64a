-- Puts by example: each line is computed from the definitions.
use Rattle.std.specs.Prelude.{◌≡◌, ℕ, List, [], ◌∷◌, Some, None, Ok, Err, fold, Option, Result}
use Rattle.ready.specs.declared.job.Job.{Job}
use Rattle.ready.specs.declared.refusal.PutRefusal.{PutRefusal}
use Rattle.ready.specs.Refusals.{number_of}
use Rattle.ready.specs.Waiting.{first_of, rest_of, put_answer, put_list, Lawful}

-- a job by key, task and number, with one unit left
abbrev pub job : ℕ → ℕ → ℕ → Job
job key task number = record { key = key; task = task; number = number; left = 1 }

-- the list after these jobs were put into an empty queue, one after the other
abbrev pub after_puts : List Job → List Job
after_puts jobs = fold (λ waiting j. put_list j waiting) [] jobs

-- the number of an answer's refusal, or none
abbrev pub refusal_number : Result Unit PutRefusal → Option ℕ
refusal_number (Ok _) = None
refusal_number (Err refusal) = Some (number_of refusal)

-- the number of the refusal of a job, or none, where these jobs were put before it
abbrev pub refused : Job → List Job → Option ℕ
refused j jobs = refusal_number (put_answer j (after_puts jobs))

-- three jobs of task 7
abbrev pub three : List Job
three = job 30 7 1 ∷ job 50 7 2 ∷ job 70 7 3 ∷ []

-- four jobs of task 7
abbrev pub four : List Job
four = job 30 7 1 ∷ job 50 7 2 ∷ job 70 7 3 ∷ job 90 7 4 ∷ []

-- who is refused, and with which number
pub record Refused : Type 0 where
  -- the fourth job of a task is put, the fifth is refused with 18
  pub fourth : refused (job 90 7 4) three ≡ None
  pub fifth : refused (job 110 7 5) four ≡ Some 18
  -- a job of another task is put all the same
  pub other_task : refused (job 110 8 5) four ≡ None
  -- there are tasks 1 to 32
  pub task_0 : refused (job 10 0 1) [] ≡ Some 16
  pub task_1 : refused (job 10 1 1) [] ≡ None
  pub task_32 : refused (job 10 32 1) [] ≡ None
  pub task_33 : refused (job 10 33 1) [] ≡ Some 16
  -- a job that waits is refused with 17, whatever its key
  pub waits : refused (job 30 7 1) three ≡ Some 17
  pub waits_otherwise : refused (job 31 7 1) three ≡ Some 17
  -- a fifth job that waits already is refused with 17
  pub fifth_waits : refused (job 90 7 4) four ≡ Some 17

-- what waits after puts: in order of key, then task, then number, and without those refused
pub record Placed : Type 0 where
  pub by_key : after_puts (job 9 1 1 ∷ job 5 2 1 ∷ job 7 3 1 ∷ []) ≡ job 5 2 1 ∷ job 7 3 1 ∷ job 9 1 1 ∷ []
  pub by_task : after_puts (job 5 3 1 ∷ job 5 1 2 ∷ job 5 2 3 ∷ []) ≡ job 5 1 2 ∷ job 5 2 3 ∷ job 5 3 1 ∷ []
  pub by_number : after_puts (job 5 4 3 ∷ job 5 4 1 ∷ job 5 4 2 ∷ []) ≡ job 5 4 1 ∷ job 5 4 2 ∷ job 5 4 3 ∷ []
  pub refused_left_out : after_puts (job 90 7 4 ∷ job 10 33 1 ∷ job 70 7 3 ∷ job 50 7 2 ∷ job 30 7 1 ∷ job 10 7 5 ∷ job 20 7 2 ∷ []) ≡ four

-- who is first, and what waits once the first was taken
pub record Taken : Type 0 where
  pub first : first_of (after_puts three) ≡ Some (job 30 7 1)
  pub rest : rest_of (after_puts three) ≡ job 50 7 2 ∷ job 70 7 3 ∷ []
  pub none : first_of (after_puts []) ≡ None
  pub nothing : rest_of (after_puts []) ≡ []

-- lists that no queue can have
pub record Unlawful : Type 0 where
  pub disordered : Lawful (job 9 1 1 ∷ job 5 2 1 ∷ []) → ⊥
  pub unknown : Lawful (job 9 33 1 ∷ []) → ⊥
  pub twice : Lawful (job 5 7 1 ∷ job 9 7 1 ∷ []) → ⊥
  pub five : Lawful (job 30 7 1 ∷ job 50 7 2 ∷ job 70 7 3 ∷ job 90 7 4 ∷ job 110 7 5 ∷ []) → ⊥
