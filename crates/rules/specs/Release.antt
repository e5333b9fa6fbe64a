-- Point 1 of a step, as docs/RUN.md numbers them: the jobs whose release is now are put into the waiting list, in task order.
use Rattle.std.specs.Prelude.{ℕ, zero, suc, ◌+◌, ◌-◌, ◌*◌, Bool, cond, List, length, ◌==◌, slice_set}
use Rattle.sheet.specs.declared.row.Row.{Row}
use Rattle.sheet.specs.Rows.{units}
use Rattle.verdict.specs.Test.{row_at}
use Rattle.ready.specs.declared.job.Job.{Job}
use Rattle.ready.specs.Waiting.{put_list}
use Rattle.rules.specs.declared.counts.TaskCounts.{TaskCounts}
use Rattle.rules.specs.State.{State, task_at}

-- when the job after `released` others is released: job n at F + (n - 1) × P
abbrev pub next_release : Row → ℕ → ℕ
next_release r released = r.phase + released * r.period

-- the key of a job that is released at a time: its deadline
abbrev pub key_at : Row → ℕ → ℕ
key_at r time = time + r.deadline

-- the next job of task i is released at this clock
abbrev pub due : List Row → ℕ → State → Bool
due rows i s = next_release (row_at i rows) (task_at i s.tasks).released == s.clock

-- the next job of task i, with all its units left
abbrev pub next_job : List Row → ℕ → State → Job
next_job rows i s = record {
  key = key_at (row_at i rows) s.clock;
  task = i;
  number = (task_at i s.tasks).released + 1;
  left = units (row_at i rows);
}

-- one job more of task i is released
abbrev pub with_release : ℕ → List TaskCounts → List TaskCounts
with_release i tasks =
    slice_set tasks (i - 1) (record {
      released = (task_at i tasks).released + 1;
      done = (task_at i tasks).done;
      given = (task_at i tasks).given;
    })

-- task i releases its next job
abbrev pub release : List Row → ℕ → State → State
release rows i s = record {
  clock = s.clock;
  waiting = put_list (next_job rows i s) s.waiting;
  hand = s.hand;
  previous = s.previous;
  tasks = with_release i s.tasks;
  counts = s.counts;
  miss = s.miss;
}

-- the first n tasks release what is due, in their order
abbrev pub releases : List Row → ℕ → State → State
releases rows zero s = s
releases rows (suc n) s =
    cond (due rows (suc n) (releases rows n s)) (release rows (suc n) (releases rows n s)) (releases rows n s)

-- every task releases what is due
abbrev pub released : List Row → State → State
released rows s = releases rows (length rows) s
