-- What keeps the numbers of a bench within their types.
use Rattle.std.specs.Prelude.{◌≡◌, ℕ, ◌+◌, ◌<◌, ◌≤◌, Bool, true, false, ◌&&◌, List, length, nat_le, slice_index_or}
use Rattle.rules.specs.declared.counts.TaskCounts.{TaskCounts}
use Rattle.rules.specs.State.{no_counts}
use Rattle.rules.specs.Step.{last_clock}
use Rattle.duty_bench.specs.declared.stage.Stage.{Stage}
use Rattle.duty_bench.specs.declared.stage.Stage.TheVariants.{Free, Holding as Keeping, Stopped}
use Rattle.duty_bench.specs.declared.parts.Parts.{Parts}

-- the bench is not stopped, and a job in the hand is of a task from 1 to 32
abbrev pub running_stage : Stage → Bool
running_stage Free = true
running_stage (Keeping held) = nat_le 1 held.job.task && nat_le held.job.task 32
running_stage (Stopped hand miss) = false

-- no task has released more jobs than r, or done more jobs or been given more ticks than t
abbrev pub Counted : ℕ → ℕ → List TaskCounts → Type 0
Counted r t tasks =
    (k : ℕ) → ((slice_index_or tasks k no_counts).released ≤ r) × ((slice_index_or tasks k no_counts).done ≤ t) × ((slice_index_or tasks k no_counts).given ≤ t)

-- what holds within a step: b is 1 once the job has begun
pub record Midway (b : ℕ) {Q : Type 0} (p : Parts Q) : Type 0 where
  pub running : running_stage p.stage ≡ true
  pub early : p.clock < last_clock
  pub whole : length p.tasks ≡ 32
  pub tasks : Counted (p.clock + 1) p.clock p.tasks
  pub idle : p.counts.idle ≤ p.clock
  pub begun : p.counts.begun ≤ p.clock + b
  pub interruptions : p.counts.interruptions ≤ p.clock + b

-- what holds of the counts of 32 tasks between steps
pub record Settled (clock : ℕ) (tasks : List TaskCounts) : Type 0 where
  pub whole : length tasks ≡ 32
  pub counted : Counted clock clock tasks
