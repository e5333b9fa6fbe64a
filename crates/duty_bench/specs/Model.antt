-- What a bench means: the rows of its table, and a state of the rules over the list that its queue means.
use Rattle.std.specs.Prelude.{ℕ, List, length, take, Some, None, Option}
use Rattle.sheet.specs.declared.row.Row.{Row}
use Rattle.sheet.specs.Tables.{rows_of}
use Rattle.verdict.specs.declared.judged.Judged.{Judged}
use Rattle.ready.specs.declared.job.Job.{Job}
use Rattle.rules.specs.declared.hand.Held.{Held}
use Rattle.rules.specs.State.{State}
use Rattle.duty_bench.specs.declared.stage.Stage.{Stage}
use Rattle.duty_bench.specs.declared.stage.Stage.TheVariants.{Free, Holding as Keeping, Stopped}
use Rattle.duty_bench.specs.declared.parts.Parts.{Parts}

-- the rows of a judged table
abbrev pub judged_rows : Judged → List Row
judged_rows j = rows_of j.table

-- the hand of a bench in that state
abbrev pub hand_of : Stage → Option Held
hand_of Free = None
hand_of (Keeping held) = Some held
hand_of (Stopped hand miss) = hand

-- the miss of a bench in that state
abbrev pub miss_of : Stage → Option Job
miss_of Free = None
miss_of (Keeping held) = None
miss_of (Stopped hand miss) = Some miss

-- the state that the parts mean, with the counts of 32 tasks, where the queue means the list that `waiting` gives
abbrev pub state_of : {Q : Type 0} → (Q → List Job) → Parts Q → State
state_of waiting p = record {
  clock = p.clock;
  waiting = waiting p.queue;
  hand = hand_of p.stage;
  previous = p.previous;
  tasks = p.tasks;
  counts = p.counts;
  miss = miss_of p.stage;
}

-- the state with the counts of the first n tasks alone
abbrev pub limited : ℕ → State → State
limited n s = record {
  clock = s.clock;
  waiting = s.waiting;
  hand = s.hand;
  previous = s.previous;
  tasks = take n s.tasks;
  counts = s.counts;
  miss = s.miss;
}

-- a bench: the rows that it runs, and a state of the rules
pub record BenchState : Type 0 where
  pub rows : List Row
  pub state : State

-- the bench that a judged table and parts mean
abbrev pub bench_of : {Q : Type 0} → (Q → List Job) → Judged → Parts Q → BenchState
bench_of waiting judged p = record {
  rows = judged_rows judged;
  state = limited (length (judged_rows judged)) (state_of waiting p);
}
