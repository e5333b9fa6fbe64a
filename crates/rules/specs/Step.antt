-- A step of the bench, and its questions.
use Rattle.std.specs.Prelude.{ℕ, Bool, cond, ◌||◌, List, length, Some, None, Ok, Err, Option, Result, ◌==◌, nat_lt}
use Rattle.sheet.specs.declared.row.Row.{Row}
use Rattle.ready.specs.declared.job.Job.{Job}
use Rattle.ready.specs.Waiting.{first_of}
use Rattle.duty_log.specs.declared.line.Outcome.{Outcome}
use Rattle.rules.specs.declared.counts.TaskCounts.{TaskCounts}
use Rattle.duty_log.specs.declared.refusal.StepRefusal.{StepRefusal}
use Rattle.duty_log.specs.declared.refusal.StepRefusal.TheVariants.{Stopped, LastClock, NoSuchLetter}
use Rattle.rules.specs.declared.refusal.QuestionRefusal.{QuestionRefusal}
use Rattle.rules.specs.declared.refusal.QuestionRefusal.TheVariants.{NoSuchTask}
use Rattle.rules.specs.State.{State, task_at}
use Rattle.rules.specs.Release.{released}
use Rattle.rules.specs.declared.letter.Letter.{Letter}
use Rattle.rules.specs.Letters.{letter_of}
use Rattle.rules.specs.Tick.{Ticked, tick}

-- the clock at which a bench takes no more steps
abbrev pub last_clock : ℕ
last_clock = 1000000000

-- what a step leaves and what it answers
pub record Stepped : Type 0 where
  pub state : State
  pub answer : Result Outcome StepRefusal

-- a refused step alters nothing
abbrev pub refused : StepRefusal → State → Stepped
refused why s = record { state = s; answer = Err why }

-- a step that is done
abbrev pub done : Ticked → Stepped
done t = record { state = t.state; answer = Ok t.outcome }

-- a step with what the character was read as: the releases, then a tick
abbrev pub step_by : List Row → Option Letter → State → Stepped
step_by rows None s = refused NoSuchLetter s
step_by rows (Some l) s = done (tick rows l (released rows s))

-- a step of a bench that is not stopped
abbrev pub step_running : List Row → ℕ → Option Job → State → Stepped
step_running rows c (Some miss) s = refused Stopped s
step_running rows c None s = cond (s.clock == last_clock) (refused LastClock s) (step_by rows (letter_of c) s)

-- a step with a character
abbrev pub step : List Row → ℕ → State → Stepped
step rows c s = step_running rows c s.miss s

-- there is no such row
abbrev pub no_row : List Row → ℕ → Bool
no_row rows i = i == 0 || nat_lt (length rows) i

-- the answer to the question for a task's counts
abbrev pub task_answer : List Row → ℕ → State → Result TaskCounts QuestionRefusal
task_answer rows i s = cond (no_row rows i) (Err NoSuchTask) (Ok (task_at i s.tasks))

-- the answer to the question for the first waiting job
abbrev pub first_answer : State → Option Job
first_answer s = first_of s.waiting
