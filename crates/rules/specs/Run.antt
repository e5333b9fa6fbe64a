-- A run: any list of steps and questions, each done or refused.
use Rattle.std.specs.Prelude.{◌-◌, List, [], ◌∷◌, ◌++◌, length, replicate}
use Rattle.sheet.specs.declared.row.Row.{Row}
use Rattle.rules.specs.declared.call.Call.{Call}
use Rattle.rules.specs.declared.call.Call.TheVariants.{Step, Counts, TaskCounts, First}
use Rattle.rules.specs.declared.closing.Closing.{Closing}
use Rattle.rules.specs.State.{State, opened, no_counts}
use Rattle.rules.specs.Step.{step}

-- what a call leaves: a question alters nothing
abbrev pub called : List Row → Call → State → State
called rows (Step c) s = (step rows c s).state
called rows Counts s = s
called rows (TaskCounts i) s = s
called rows First s = s

-- what a list of calls leaves
abbrev pub run_from : List Row → List Call → State → State
run_from rows [] s = s
run_from rows (c ∷ cs) s = run_from rows cs (called rows c s)

-- the state of a bench after a run from its opening
abbrev pub after_run : List Row → List Call → State
after_run rows calls = run_from rows calls (opened rows)

-- what closing gives
abbrev pub closing_of : State → Closing
closing_of s = record {
  clock = s.clock;
  counts = s.counts;
  rows = length s.tasks;
  tasks = s.tasks ++ replicate (32 - length s.tasks) no_counts;
  miss = s.miss;
}
