-- The parts of a bench, over a plain waiting list.
use Rattle.std.specs.Prelude.{ℕ, ◌-◌, List, [], ◌∷◌, length, replicate, None, Some, Option, slice_index_or}
use Rattle.sheet.specs.declared.row.Row.{Row}
use Rattle.ready.specs.declared.job.Job.{Job}
use Rattle.rules.specs.declared.counts.TaskCounts.{TaskCounts}
use Rattle.rules.specs.declared.counts.Counts.{Counts}
use Rattle.rules.specs.declared.hand.Held.{Held}
use Rattle.ready.specs.declared.job.JobId.{JobId}

-- a bench as the rules see it
pub record State : Type 0 where
  -- the ticks since the bench was opened
  pub clock : ℕ
  -- the waiting jobs, most urgent first
  pub waiting : List Job
  -- the job that keeps the processor, if any
  pub hand : Option Held
  -- the job that ran in the tick before and is not done, if any
  pub previous : Option JobId
  -- the counts of each task, first to last
  pub tasks : List TaskCounts
  -- idle ticks, jobs begun, interruptions
  pub counts : Counts
  -- the job that missed its deadline, if any: then the bench is stopped
  pub miss : Option Job

-- counts of a task that has released nothing
abbrev pub no_counts : TaskCounts
no_counts = record { released = 0; done = 0; given = 0 }

-- the counts of task i, counted from 1
abbrev pub task_at : ℕ → List TaskCounts → TaskCounts
task_at i tasks = slice_index_or tasks (i - 1) no_counts

-- the jobs that are released and not done: the one in the hand and those that wait
abbrev pub pending_of : Option Held → List Job → List Job
pending_of None js = js
pending_of (Some held) js = held.job ∷ js

-- the pending jobs of a bench
abbrev pub pending : State → List Job
pending s = pending_of s.hand s.waiting

-- a bench at clock 0: all counts are 0 and all places empty
abbrev pub opened : List Row → State
opened rows = record {
  clock = 0;
  waiting = [];
  hand = None;
  previous = None;
  tasks = replicate (length rows) no_counts;
  counts = record { idle = 0; begun = 0; interruptions = 0 };
  miss = None;
}
