-- The tick lines of a run, and what a reader can count in them.
use Rattle.std.specs.Prelude.{◌≡◌, ℕ, ◌+◌, Bool, true, false, cond, not, ◌&&◌, List, [], ◌∷◌, length, Some, None, Ok, Err, count_by, Option, Result, ◌==◌}
use Rattle.sheet.specs.declared.row.Row.{Row}
use Rattle.sheet.specs.declared.table.Table.{Table}
use Rattle.sheet.specs.Tables.{rows_of}
use Rattle.duty_log.specs.declared.line.Event.{Event}
use Rattle.duty_log.specs.declared.line.Event.TheVariants.{PutBack, Held, Done, Idle}
use Rattle.duty_log.specs.declared.line.Tick.{Tick}
use Rattle.duty_log.specs.declared.line.Outcome.{Outcome}
use Rattle.ready.specs.declared.job.JobId.{JobId}
use Rattle.duty_log.specs.declared.refusal.StepRefusal.{StepRefusal}
use Rattle.rules.specs.declared.call.Call.{Call}
use Rattle.rules.specs.declared.call.Call.TheVariants.{Step, Counts, TaskCounts, First}
use Rattle.rules.specs.State.{State, opened}
use Rattle.rules.specs.Step.{step}
use Rattle.rules.specs.Run.{after_run}

-- the tick line of a step that was done, in front of the lines that follow
abbrev pub logged : Result Outcome StepRefusal → List Tick → List Tick
logged (Ok outcome) ts = outcome.tick ∷ ts
logged (Err why) ts = ts

-- the tick lines that a list of calls gives
abbrev pub lines_from : List Row → List Call → State → List Tick
lines_from rows [] s = []
lines_from rows (Step c ∷ cs) s = logged (step rows c s).answer (lines_from rows cs (step rows c s).state)
lines_from rows (Counts ∷ cs) s = lines_from rows cs s
lines_from rows (TaskCounts i ∷ cs) s = lines_from rows cs s
lines_from rows (First ∷ cs) s = lines_from rows cs s

-- the tick lines of a run from its opening
abbrev pub lines_of : List Row → List Call → List Tick
lines_of rows calls = lines_from rows calls (opened rows)

-- nobody ran
abbrev pub is_idle : Event → Bool
is_idle Idle = true
is_idle PutBack = false
is_idle Held = false
is_idle Done = false

-- the job of a line, if it ran and is not done
abbrev pub left_by : Event → JobId → Option JobId
left_by PutBack job = Some job
left_by Held job = Some job
left_by Done job = None
left_by Idle job = None

-- the job that the line leaves unfinished
abbrev pub unfinished : Tick → Option JobId
unfinished t = left_by t.event (record { task = t.task; number = t.job })

-- the line is of another job than the one that was left unfinished in the line before, if one was
abbrev pub takes_over : Option JobId → Tick → Bool
takes_over None t = false
takes_over (Some p) t = not (is_idle t.event) && not (p.task == t.task && p.number == t.job)

-- how many lines are of a job that takes over from an unfinished one
abbrev pub takeovers : Option JobId → List Tick → ℕ
takeovers p [] = 0
takeovers p (t ∷ ts) = cond (takes_over p t) 1 0 + takeovers (unfinished t) ts

-- the clock is the number of tick lines, the idle ticks are the lines that end in i, and the interruptions are the take-overs
pub record CountedFrom (ts : List Tick) (s : State) : Type 0 where
  pub clock : s.clock ≡ length ts
  pub idle : s.counts.idle ≡ count_by (λ t. is_idle t.event) ts
  pub interruptions : s.counts.interruptions ≡ takeovers None ts

-- so it is after every run
abbrev pub LinesTell : Type 0
LinesTell = (t : Table) (calls : List Call) → CountedFrom (lines_of (rows_of t) calls) (after_run (rows_of t) calls)
