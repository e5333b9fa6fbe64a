-- Laws of every run that a reader of the field would name without having seen the step.
use Rattle.std.specs.Prelude.{◌≡◌, ℕ, ◌+◌, ◌-◌, ◌*◌, ◌^◌, ◌<◌, ◌≤◌, Bool, true, false, cond, List, [], length, Some, None, Option, Ok, All, Contains, sum_by, count_by, ◌==◌}
use Rattle.sheet.specs.declared.row.Row.{Row}
use Rattle.sheet.specs.declared.table.Table.{Table}
use Rattle.sheet.specs.Rows.{units}
use Rattle.sheet.specs.Tables.{rows_of}
use Rattle.verdict.specs.Test.{row_at}
use Rattle.ready.specs.declared.job.Job.{Job}
use Rattle.ready.specs.Order.{before}
use Rattle.ready.specs.Waiting.{Lawful, of_task, is_job, put_answer}
use Rattle.duty_log.specs.declared.line.Event.TheVariants.{PutBack, Idle}
use Rattle.duty_log.specs.declared.line.Outcome.{Outcome}
use Rattle.rules.specs.declared.counts.TaskCounts.{TaskCounts}
use Rattle.rules.specs.declared.call.Call.{Call}
use Rattle.rules.specs.declared.call.Call.TheVariants.{Step, Counts, TaskCounts as AskTask, First}
use Rattle.rules.specs.declared.hand.Held.{Held}
use Rattle.rules.specs.State.{State, task_at, pending}
use Rattle.rules.specs.Release.{next_release, next_job, due, releases, released}
use Rattle.rules.specs.declared.letter.Letter.{Letter}
use Rattle.rules.specs.Tick.{runs, turn_of, worked, event_at}
use Rattle.rules.specs.Step.{step, last_clock}
use Rattle.rules.specs.Run.{after_run}
use Rattle.rules.specs.Deadlines.{releases_before}

-- every tick was idle or given to a task
abbrev pub TimeAccounted : List Row → State → Type 0
TimeAccounted rows s = s.clock ≡ s.counts.idle + sum_by (λ k. k.given) s.tasks

-- task i has released the jobs of a periodic task whose releases are before the clock
abbrev pub ReleasedOnTime : List Row → State → Type 0
ReleasedOnTime rows s =
    (i : ℕ) → 1 ≤ i → i ≤ length rows → (task_at i s.tasks).released ≡ releases_before (row_at i rows) s.clock

-- what is released is done or pending
abbrev pub NothingLost : List Row → State → Type 0
NothingLost rows s =
    (i : ℕ) → 1 ≤ i → i ≤ length rows → (task_at i s.tasks).released ≡ (task_at i s.tasks).done + count_by (of_task i) (pending s)

-- the pending jobs of task i are just those after the done ones, each once: the jobs of a task are done in the order of their releases
abbrev pub InOrder : List Row → State → Type 0
InOrder rows s =
    (i n : ℕ) → 1 ≤ i → i ≤ length rows → (task_at i s.tasks).done < n → n ≤ (task_at i s.tasks).released
    → count_by (is_job i n) (pending s) ≡ 1

-- a pending job is of a row, is released and not done, has its release's deadline for its key, and a unit left at least and all at most
pub record Proper (rows : List Row) (s : State) (j : Job) : Type 0 where
  pub low : 1 ≤ j.task
  pub high : j.task ≤ length rows
  pub undone : (task_at j.task s.tasks).done < j.number
  pub out : j.number ≤ (task_at j.task s.tasks).released
  pub key : j.key ≡ next_release (row_at j.task rows) (j.number - 1) + (row_at j.task rows).deadline
  pub some : 1 ≤ j.left
  pub most : j.left ≤ units (row_at j.task rows)

-- every pending job is such a job
abbrev pub AllProper : List Row → State → Type 0
AllProper rows s = All (Proper rows s) (pending s)

-- the waiting list is one that a queue can have
abbrev pub WaitingLawful : List Row → State → Type 0
WaitingLawful rows s = Lawful s.waiting

-- a job in the hand has held at least once and at most as often as its row allows
abbrev pub Holds : List Row → Option Held → Type 0
Holds rows None = Unit {0}
Holds rows (Some held) = (1 ≤ held.holds) × (held.holds ≤ (row_at held.job.task rows).hold)

-- so it is with the hand of the bench
abbrev pub HoldsFew : List Row → State → Type 0
HoldsFew rows s = Holds rows s.hand

-- the units that the pending jobs of task i have left
abbrev pub left_of : ℕ → List Job → ℕ
left_of i js = sum_by (λ j. cond (of_task i j) j.left 0) js

-- a task's ticks given and units pending are at most what its released jobs asked
abbrev pub GivenAtMost : List Row → State → Type 0
GivenAtMost rows s =
    (i : ℕ) → 1 ≤ i → i ≤ length rows
    → (task_at i s.tasks).given + left_of i (pending s) ≤ (task_at i s.tasks).released * units (row_at i rows)

-- the job has all the units of its row left
abbrev pub untouched : List Row → Job → Bool
untouched rows j = j.left == units (row_at j.task rows)

-- a released job has begun, or it pends with all its units left
abbrev pub BegunCounted : List Row → State → Type 0
BegunCounted rows s = s.counts.begun + count_by (untouched rows) (pending s) ≡ sum_by (λ k. k.released) s.tasks

-- the call is no step with the letter f
abbrev pub Unended : Call → Type 0
Unended (Step c) = (c == 102) ≡ false
Unended Counts = Unit {0}
Unended (AskTask i) = Unit {0}
Unended First = Unit {0}

-- no call is a step with the letter f
abbrev pub NoneEnded : List Call → Type 0
NoneEnded calls = All Unended calls

-- and exactly that where nothing was ended early
abbrev pub GivenExactly : Type 0
GivenExactly =
    (t : Table) (calls : List Call) → NoneEnded calls → (i : ℕ) → 1 ≤ i → i ≤ length (rows_of t)
    → (task_at i (after_run (rows_of t) calls).tasks).given + left_of i (pending (after_run (rows_of t) calls))
    ≡ (task_at i (after_run (rows_of t) calls).tasks).released * units (row_at i (rows_of t))

-- where a step is done, its tick is idle only if nothing was pending once the releases were in
abbrev pub IdleOnlyIfNothingPends : List Row → State → Type 0
IdleOnlyIfNothingPends rows s =
    (c : ℕ) (o : Outcome) → (step rows c s).answer ≡ Ok o → o.tick.event ≡ Idle → pending (released rows s) ≡ []

-- where the hand is empty, no pending job is more urgent than the one that runs
abbrev pub MostUrgentRuns : List Row → State → Type 0
MostUrgentRuns rows s =
    (j : Job) (holds : ℕ) (js : List Job) → s.hand ≡ None
    → turn_of s.hand (released rows s).waiting ≡ runs j holds js → All (λ k. before k j ≡ false) (pending (released rows s))

-- the job is pending, its deadline has come, and no pending job is more urgent
pub record Late (s : State) (j : Job) : Type 0 where
  pub pends : Contains (pending s) j
  pub due : j.key ≤ s.clock
  pub first : All (λ k. before k j ≡ false) (pending s)

-- the miss of a stopped bench is such a job
abbrev pub MissIsLate : List Row → State → Type 0
MissIsLate rows s = (j : Job) → s.miss ≡ Some j → Late s j

-- no put of the next step is refused
pub record PutsAccepted (rows : List Row) (s : State) : Type 0 where
  pub releases : (n : ℕ) → n < length rows → due rows (n + 1) (releases rows n s) ≡ true
      → put_answer (next_job rows (n + 1) (releases rows n s)) (releases rows n s).waiting ≡ Ok tt
  pub back : (l : Letter) (j : Job) (holds : ℕ) (js : List Job)
      → turn_of s.hand (released rows s).waiting ≡ runs j holds js → event_at rows l j holds ≡ PutBack
      → put_answer (worked j) js ≡ Ok tt

-- unless the bench is stopped
abbrev pub PutsAcceptedIfRunning : List Row → State → Type 0
PutsAcceptedIfRunning rows s = s.miss ≡ None → PutsAccepted rows s

-- no count of a task exceeds the clock
pub record FitsTask (s : State) (k : TaskCounts) : Type 0 where
  pub released : k.released ≤ s.clock
  pub done : k.done ≤ s.clock
  pub given : k.given ≤ s.clock

-- every number of a job fits 32 bits
abbrev pub FitsJob : Job → Type 0
FitsJob j = (j.key < 2 ^ 32) × (j.task ≤ 32) × (j.number < 2 ^ 32) × (j.left < 2 ^ 32)

-- every number of the bench fits 32 bits
pub record NumbersFit (rows : List Row) (s : State) : Type 0 where
  pub clock : s.clock ≤ last_clock
  pub idle : s.counts.idle ≤ s.clock
  pub begun : s.counts.begun ≤ s.clock
  pub interruptions : s.counts.interruptions ≤ s.clock
  pub tasks : All (FitsTask s) s.tasks
  pub jobs : All FitsJob (pending s)
