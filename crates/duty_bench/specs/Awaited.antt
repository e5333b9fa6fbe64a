-- The releases that a bench awaits: the next one of each task.
use Rattle.std.specs.Prelude.{◌≡◌, ℕ, zero, suc, ◌≤◌, true, cond, List, [], ◌∷◌, length, Some, None, Option, ◌==◌}
use Rattle.sheet.specs.declared.row.Row.{Row}
use Rattle.sheet.specs.Rows.{lawful_after}
use Rattle.verdict.specs.Test.{row_at}
use Rattle.ready.specs.Sorted.{ordered}
use Rattle.ready.specs.Waiting.{first_of}
use Rattle.heap.specs.declared.release.Release.{Release}
use Rattle.heap.specs.declared.releases.Releases.{Releases}
use Rattle.heap.specs.Coming.{earlier}
use Rattle.heap.specs.Releases.{coming}
use Rattle.rules.specs.declared.counts.TaskCounts.{TaskCounts}
use Rattle.rules.specs.State.{task_at}
use Rattle.rules.specs.Release.{next_release}

-- when the next job of task i is released
abbrev pub next_time : List Row → List TaskCounts → ℕ → ℕ
next_time rows tasks i = next_release (row_at i rows) (task_at i tasks).released

-- a release of each of the tasks n to 1, at the task's time
abbrev pub one_each : (ℕ → ℕ) → ℕ → List Release
one_each time zero = []
one_each time (suc n) = record { time = time (suc n); task = suc n } ∷ one_each time n

-- the releases to come are the next one of each task, in order
abbrev pub Awaited : List Row → List TaskCounts → Releases → Type 0
Awaited rows tasks r = coming r ≡ ordered earlier (one_each (next_time rows tasks) (length rows))

-- none of them is before that clock
abbrev pub NoneBefore : List Row → List TaskCounts → ℕ → Type 0
NoneBefore rows tasks clock = (i : ℕ) → 1 ≤ i → i ≤ length rows → clock ≤ next_time rows tasks i

-- the releases of a table's rows are awaited, and none of them is before that clock
pub record Awaits (rows : List Row) (tasks : List TaskCounts) (clock : ℕ) (r : Releases) : Type 0 where
  pub lawful : lawful_after 0 rows ≡ true
  pub few : length rows ≤ 32
  pub awaited : Awaited rows tasks r
  pub none_before : NoneBefore rows tasks clock

-- the task of a release at that clock
abbrev pub due_at : ℕ → Option Release → Option ℕ
due_at clock None = None
due_at clock (Some r) = cond (r.time == clock) (Some r.task) None

-- the task of the first release to come, where that is at the clock
abbrev pub first_due : ℕ → Releases → Option ℕ
first_due clock r = due_at clock (first_of (coming r))
