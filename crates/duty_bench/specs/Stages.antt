-- A tick in the order in which the bench does it: the job that runs is taken into the hand, it begins, it works.
use Rattle.std.specs.Prelude.{ℕ, ◌+◌, ◌-◌, List, Some, None, Option, slice_set}
use Rattle.sheet.specs.declared.row.Row.{Row}
use Rattle.verdict.specs.Test.{row_at}
use Rattle.ready.specs.declared.job.Job.{Job}
use Rattle.ready.specs.Waiting.{first_of, rest_of}
use Rattle.duty_log.specs.declared.line.Event.{Event}
use Rattle.duty_log.specs.declared.line.Event.TheVariants.{Held, Idle}
use Rattle.duty_log.specs.declared.line.Tick.{Tick}
use Rattle.rules.specs.declared.counts.Counts.{Counts}
use Rattle.rules.specs.declared.hand.Held.{Held as HeldJob}
use Rattle.ready.specs.declared.job.JobId.{JobId}
use Rattle.rules.specs.declared.counts.TaskCounts.{TaskCounts}
use Rattle.rules.specs.State.{State, task_at}
use Rattle.duty_bench.specs.declared.stage.Stage.{Stage}
use Rattle.duty_bench.specs.declared.stage.Stage.TheVariants.{Free, Holding as Keeping, Stopped}
use Rattle.rules.specs.declared.letter.Letter.{Letter}
use Rattle.rules.specs.Tick.{one_if, begins, interrupts, worked, event_at, waiting_after, hand_after, previous_after, with_tick}

-- the hand once the first waiting job was taken into an empty one
abbrev pub taken : Option HeldJob → Option Job → Option HeldJob
taken (Some held) first = Some held
taken None None = None
taken None (Some j) = Some (record { job = j; holds = 0 })

-- the waiting list once its first job was taken into an empty hand
abbrev pub left_waiting : Option HeldJob → List Job → List Job
left_waiting (Some held) js = js
left_waiting None js = rest_of js

-- the job that runs is in the hand
abbrev pub picked : State → State
picked s = record {
  clock = s.clock;
  waiting = left_waiting s.hand s.waiting;
  hand = taken s.hand (first_of s.waiting);
  previous = s.previous;
  tasks = s.tasks;
  counts = s.counts;
  miss = s.miss;
}

-- the counts once the job in the hand begins
abbrev pub begun_counts : List Row → Option HeldJob → Option JobId → Counts → Counts
begun_counts rows None previous c = c
begun_counts rows (Some held) previous c = record {
  idle = c.idle;
  begun = c.begun + one_if (begins (row_at held.job.task rows) held.job);
  interruptions = c.interruptions + one_if (interrupts previous held.job);
}

-- the job in the hand begins
abbrev pub started : List Row → State → State
started rows s = record {
  clock = s.clock;
  waiting = s.waiting;
  hand = s.hand;
  previous = s.previous;
  tasks = s.tasks;
  counts = begun_counts rows s.hand s.previous s.counts;
  miss = s.miss;
}

-- the most holds in a row that the row of the job in the hand allows
abbrev pub most_holds : List Row → Stage → ℕ
most_holds rows Free = 0
most_holds rows (Keeping held) = (row_at held.job.task rows).hold
most_holds rows (Stopped hand miss) = 0

-- a tick given to task i, and so many jobs done
abbrev pub credited : ℕ → ℕ → List TaskCounts → List TaskCounts
credited done i tasks =
    slice_set tasks (i - 1) (record {
      released = (task_at i tasks).released;
      done = (task_at i tasks).done + done;
      given = (task_at i tasks).given + 1;
    })

-- a job works, and that event follows
abbrev pub moved_with : Event → Job → ℕ → State → State
moved_with e j holds s = record {
  clock = s.clock + 1;
  waiting = waiting_after e (worked j) s.waiting;
  hand = hand_after e (worked j) holds;
  previous = previous_after e j;
  tasks = with_tick e j.task s.tasks;
  counts = s.counts;
  miss = s.miss;
}

-- a job that is in the hand with one unit less and one hold more is counted
abbrev pub kept_with : Job → State → State
kept_with j s = record {
  clock = s.clock + 1;
  waiting = s.waiting;
  hand = s.hand;
  previous = previous_after Held j;
  tasks = with_tick Held j.task s.tasks;
  counts = s.counts;
  miss = s.miss;
}

-- the tick is idle
abbrev pub idled : State → State
idled s = record {
  clock = s.clock + 1;
  waiting = s.waiting;
  hand = None;
  previous = None;
  tasks = s.tasks;
  counts = record { idle = s.counts.idle + 1; begun = s.counts.begun; interruptions = s.counts.interruptions };
  miss = s.miss;
}

-- the job in the hand works, or the tick is idle
abbrev pub moved_by : List Row → Letter → Option HeldJob → State → State
moved_by rows l None s = idled s
moved_by rows l (Some held) s = moved_with (event_at rows l held.job held.holds) held.job held.holds s

abbrev pub moved : List Row → Letter → State → State
moved rows l s = moved_by rows l s.hand s

-- the line of a tick, of a job as it is after the tick
abbrev pub tick_of : ℕ → Job → Event → Tick
tick_of clock j e = record { clock = clock; task = j.task; job = j.number; left = j.left; event = e }

-- the line of a tick in which a job works
abbrev pub tick_line : Event → Job → ℕ → Tick
tick_line e j clock = tick_of clock (worked j) e

-- the line of an idle tick
abbrev pub idle_line : ℕ → Tick
idle_line clock = record { clock = clock; task = 0; job = 0; left = 0; event = Idle }

-- the line of the tick
abbrev pub line_by : List Row → Letter → Option HeldJob → ℕ → Tick
line_by rows l None clock = idle_line clock
line_by rows l (Some held) clock = tick_line (event_at rows l held.job held.holds) held.job clock
