-- What is promised of every run on every table.
use Rattle.std.specs.Prelude.{◌≡◌, ℕ, ◌<◌, ◌≤◌, List, length, None}
use Rattle.sheet.specs.declared.row.Row.{Row}
use Rattle.sheet.specs.declared.table.Table.{Table}
use Rattle.sheet.specs.Tables.{rows_of}
use Rattle.verdict.specs.declared.answer.Verdict.TheVariants.{Admitted}
use Rattle.verdict.specs.Test.{row_at, verdict_of}
use Rattle.rules.specs.declared.counts.Counts.{Counts}
use Rattle.rules.specs.declared.call.Call.{Call}
use Rattle.rules.specs.declared.closing.Closing.{Closing}
use Rattle.rules.specs.State.{State, task_at}
use Rattle.rules.specs.Run.{after_run, closing_of}
use Rattle.rules.specs.Deadlines.{deadlines_by}

-- something holds after every run on every table
abbrev pub EveryRun : (List Row → State → Type 0) → Type 0
EveryRun P = (t : Table) (calls : List Call) → P (rows_of t) (after_run (rows_of t) calls)

-- where the table is admitted
abbrev pub IfAdmitted : (List Row → State → Type 0) → List Row → State → Type 0
IfAdmitted P rows s = verdict_of rows ≡ Admitted → P rows s

-- the bench is not stopped
abbrev pub Running : List Row → State → Type 0
Running rows s = s.miss ≡ None

-- each task has done at least the jobs whose deadlines have come
abbrev pub InTime : List Row → State → Type 0
InTime rows s = (i : ℕ) → 1 ≤ i → i ≤ length rows → deadlines_by (row_at i rows) s.clock ≤ (task_at i s.tasks).done

-- a bench runs just as long as it is in time: it is stopped where a deadline has come and its job is not done, and nowhere else
pub record RunsWhileInTime (rows : List Row) (s : State) : Type 0 where
  pub running : Running rows s → InTime rows s
  pub in_time : InTime rows s → Running rows s

-- fewer interruptions than jobs begun once a job has begun, and none before
abbrev pub Few : Counts → Type 0
Few c = (0 < c.begun → c.interruptions < c.begun) × (c.begun ≡ 0 → c.interruptions ≡ 0)

-- an admitted table is never stopped
abbrev pub Punctual : Type 0
Punctual = EveryRun (IfAdmitted Running)

-- on an admitted table every deadline that has come is met
abbrev pub DeadlinesMet : Type 0
DeadlinesMet = EveryRun (IfAdmitted InTime)

-- on every table interruptions are few
abbrev pub FewInterruptions : Type 0
FewInterruptions = EveryRun (λ rows s. Few s.counts)

-- what is promised of the closing of a run on those rows
pub record Promised (rows : List Row) (c : Closing) : Type 0 where
  -- if the table was admitted, the bench is not stopped
  pub running : verdict_of rows ≡ Admitted → c.miss ≡ None
  -- and each task's jobs done are at least its deadlines up to the clock
  pub in_time : verdict_of rows ≡ Admitted → (i : ℕ) → 1 ≤ i → i ≤ length rows → deadlines_by (row_at i rows) c.clock ≤ (task_at i c.tasks).done
  -- on every table, interruptions are few
  pub few : Few c.counts

-- the closing of every run keeps the promise
abbrev pub EveryClosing : Type 0
EveryClosing = (t : Table) (calls : List Call) → Promised (rows_of t) (closing_of (after_run (rows_of t) calls))
