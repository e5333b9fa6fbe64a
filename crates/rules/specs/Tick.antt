-- Points 2 to 7 of a step, as docs/RUN.md numbers them: one tick of the processor.
use Rattle.std.specs.Prelude.{ℕ, ◌+◌, ◌-◌, Bool, false, cond, not, ◌&&◌, List, [], ◌∷◌, Some, None, Option, ◌==◌, nat_le, nat_lt, slice_set}
use Rattle.sheet.specs.declared.row.Row.{Row}
use Rattle.sheet.specs.Rows.{units}
use Rattle.verdict.specs.Test.{row_at}
use Rattle.ready.specs.declared.job.Job.{Job}
use Rattle.ready.specs.Order.{before}
use Rattle.ready.specs.Waiting.{first_of, put_list}
use Rattle.duty_log.specs.declared.line.Event.{Event}
use Rattle.duty_log.specs.declared.line.Event.TheVariants.{PutBack, Held, Done, Idle}
use Rattle.duty_log.specs.declared.line.Tick.{Tick}
use Rattle.duty_log.specs.declared.line.Miss.{Miss}
use Rattle.duty_log.specs.declared.line.Outcome.{Outcome}
use Rattle.rules.specs.declared.counts.TaskCounts.{TaskCounts}
use Rattle.rules.specs.declared.hand.Held.{Held as HeldJob}
use Rattle.ready.specs.declared.job.JobId.{JobId}
use Rattle.rules.specs.declared.letter.Letter.{Letter}
use Rattle.rules.specs.declared.letter.Letter.TheVariants.{Run, Hold, Finish}
use Rattle.rules.specs.State.{State, task_at}

-- who runs: nobody, or a job with its holds in a row so far and the jobs that wait besides
-- (not an option: of a record of the three it says no more, and takes longer)
pub data Turn : Type 0 where
  nobody : Turn
  runs : Job → ℕ → List Job → Turn

-- 2: the job in the hand runs; if the hand is empty, the first waiting job
abbrev pub turn_of : Option HeldJob → List Job → Turn
turn_of (Some held) js = runs held.job held.holds js
turn_of None [] = nobody
turn_of None (j ∷ js) = runs j 0 js

-- 1 if the test holds, else 0
abbrev pub one_if : Bool → ℕ
one_if b = cond b 1 0

-- 3: the job has all its units left
abbrev pub begins : Row → Job → Bool
begins r j = j.left == units r

-- 3: there is a previous job, and it is another one
abbrev pub interrupts : Option JobId → Job → Bool
interrupts None j = false
interrupts (Some p) j = not (p.task == j.task && p.number == j.number)

-- 4: the job with one unit less
abbrev pub worked : Job → Job
worked j = record { key = j.key; task = j.task; number = j.number; left = j.left - 1 }

-- 5: what becomes of a job that has run, by the units then left, its holds in a row and the most that its row allows
abbrev pub event_of : Letter → (left holds most : ℕ) → Event
event_of Finish left holds most = Done
event_of Run left holds most = cond (left == 0) Done PutBack
event_of Hold left holds most = cond (left == 0) Done (cond (nat_lt holds most) Held PutBack)

-- 5: the hand after the job has run
abbrev pub hand_after : Event → Job → ℕ → Option HeldJob
hand_after Held j holds = Some (record { job = j; holds = holds + 1 })
hand_after PutBack j holds = None
hand_after Done j holds = None
hand_after Idle j holds = None

-- 5: the waiting list after the job has run
abbrev pub waiting_after : Event → Job → List Job → List Job
waiting_after PutBack j js = put_list j js
waiting_after Held j js = js
waiting_after Done j js = js
waiting_after Idle j js = js

-- the job that has run, unless it is done
abbrev pub previous_after : Event → Job → Option JobId
previous_after PutBack j = Some (record { task = j.task; number = j.number })
previous_after Held j = Some (record { task = j.task; number = j.number })
previous_after Done j = None
previous_after Idle j = None

-- 1 if a job was done
abbrev pub one_done : Event → ℕ
one_done Done = 1
one_done PutBack = 0
one_done Held = 0
one_done Idle = 0

-- 4 and 5: the counts of the task whose job has run
abbrev pub with_tick : Event → ℕ → List TaskCounts → List TaskCounts
with_tick e i tasks =
    slice_set tasks (i - 1) (record {
      released = (task_at i tasks).released;
      done = (task_at i tasks).done + one_done e;
      given = (task_at i tasks).given + 1;
    })

-- 3 to 6: a job runs, and that event follows
abbrev pub worked_state : List Row → Event → Job → ℕ → List Job → State → State
worked_state rows e j holds js s = record {
  clock = s.clock + 1;
  waiting = waiting_after e (worked j) js;
  hand = hand_after e (worked j) holds;
  previous = previous_after e j;
  tasks = with_tick e j.task s.tasks;
  counts = record {
    idle = s.counts.idle;
    begun = s.counts.begun + one_if (begins (row_at j.task rows) j);
    interruptions = s.counts.interruptions + one_if (interrupts s.previous j);
  };
  miss = s.miss;
}

-- 2 and 6: an idle tick
abbrev pub idle_state : State → State
idle_state s = record {
  clock = s.clock + 1;
  waiting = [];
  hand = None;
  previous = None;
  tasks = s.tasks;
  counts = record {
    idle = s.counts.idle + 1;
    begun = s.counts.begun;
    interruptions = s.counts.interruptions;
  };
  miss = s.miss;
}

-- 5: what becomes of the job that runs
abbrev pub event_at : List Row → Letter → Job → ℕ → Event
event_at rows l j holds = event_of l (j.left - 1) holds (row_at j.task rows).hold

-- 2 to 6: the state after the turn
abbrev pub after_turn : List Row → Letter → Turn → State → State
after_turn rows l nobody s = idle_state s
after_turn rows l (runs j holds js) s = worked_state rows (event_at rows l j holds) j holds js s

-- the log line of the turn, with the clock before it and the units left after it
abbrev pub line_of : List Row → Letter → Turn → State → Tick
line_of rows l nobody s = record { clock = s.clock; task = 0; job = 0; left = 0; event = Idle }
line_of rows l (runs j holds js) s =
    record { clock = s.clock; task = j.task; job = j.number; left = j.left - 1; event = event_at rows l j holds }

-- the more urgent of two jobs, if there is a second
abbrev pub urgent_of : Job → Option Job → Job
urgent_of j None = j
urgent_of j (Some w) = cond (before w j) w j

-- 7: the most urgent job among hand and waiting list
abbrev pub most_urgent : Option HeldJob → List Job → Option Job
most_urgent None js = first_of js
most_urgent (Some held) js = Some (urgent_of held.job (first_of js))

-- 7: the job if its key is at or below the clock
abbrev pub late_at : ℕ → Option Job → Option Job
late_at clock None = None
late_at clock (Some j) = cond (nat_le j.key clock) (Some j) None

-- 7: the job that misses its deadline at the clock, if any
abbrev pub missed : State → Option Job
missed s = late_at s.clock (most_urgent s.hand s.waiting)

-- 7: the bench is stopped if a job missed its deadline
abbrev pub checked : State → State
checked s = record {
  clock = s.clock;
  waiting = s.waiting;
  hand = s.hand;
  previous = s.previous;
  tasks = s.tasks;
  counts = s.counts;
  miss = missed s;
}

-- the fields of a miss line
abbrev pub miss_line : Option Job → Option Miss
miss_line None = None
miss_line (Some j) = Some (record { task = j.task; job = j.number })

-- what a tick leaves and what it logs
pub record Ticked : Type 0 where
  pub state : State
  pub outcome : Outcome

-- 2 to 7: a tick
abbrev pub tick : List Row → Letter → State → Ticked
tick rows l s =
    record {
      state = checked (after_turn rows l (turn_of s.hand s.waiting) s);
      outcome = record {
        tick = line_of rows l (turn_of s.hand s.waiting) s;
        miss = miss_line (missed (after_turn rows l (turn_of s.hand s.waiting) s));
      };
    }
