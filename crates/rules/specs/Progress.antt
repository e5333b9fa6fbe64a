-- Which steps are done and which are refused, whatever the state of the bench.
use Rattle.std.specs.Prelude.{◌≡◌, ℕ, ◌+◌, ◌<◌, List, [], ◌∷◌, ◌++◌, Some, None, Ok, Err}
use Rattle.sheet.specs.declared.row.Row.{Row}
use Rattle.ready.specs.declared.job.Job.{Job}
use Rattle.duty_log.specs.declared.line.Outcome.{Outcome}
use Rattle.duty_log.specs.declared.refusal.StepRefusal.TheVariants.{Stopped, LastClock, NoSuchLetter}
use Rattle.rules.specs.declared.call.Call.{Call}
use Rattle.rules.specs.declared.call.Call.TheVariants.{Counts, TaskCounts, First}
use Rattle.rules.specs.State.{State}
use Rattle.rules.specs.Step.{step}
use Rattle.rules.specs.Run.{called, run_from}

-- a step with that character is done: its line has the clock before it, and the clock rises by 1
pub record Taken (rows : List Row) (c : ℕ) (s : State) : Type 0 where
  pub outcome : Outcome
  pub answer : (step rows c s).answer ≡ Ok outcome
  pub line : outcome.tick.clock ≡ s.clock
  pub clock : (step rows c s).state.clock ≡ s.clock + 1

-- the character is none of r (114), h (104), f (102)
pub record NoLetter (c : ℕ) : Type 0 where
  pub not_run : c ≡ 114 → ⊥
  pub not_hold : c ≡ 104 → ⊥
  pub not_finish : c ≡ 102 → ⊥

-- a bench that is not stopped takes r, h and f before clock 1,000,000,000; each refusal comes in its turn and alters nothing
pub record Steps (rows : List Row) (s : State) : Type 0 where
  pub run : s.miss ≡ None → s.clock < 1000000000 → Taken rows 114 s
  pub hold : s.miss ≡ None → s.clock < 1000000000 → Taken rows 104 s
  pub finish : s.miss ≡ None → s.clock < 1000000000 → Taken rows 102 s
  pub stopped : (c : ℕ) (miss : Job) → s.miss ≡ Some miss → step rows c s ≡ record { state = s; answer = Err Stopped }
  pub last : (c : ℕ) → s.miss ≡ None → s.clock ≡ 1000000000 → step rows c s ≡ record { state = s; answer = Err LastClock }
  pub stranger : (c : ℕ) → NoLetter c → s.miss ≡ None → s.clock < 1000000000 → step rows c s ≡ record { state = s; answer = Err NoSuchLetter }

-- questions alter nothing
pub record Questions (rows : List Row) (s : State) : Type 0 where
  pub counts : called rows Counts s ≡ s
  pub task : (i : ℕ) → called rows (TaskCounts i) s ≡ s
  pub first : called rows First s ≡ s

-- so it is with every table and state
abbrev pub EveryQuestion : Type 0
EveryQuestion = (rows : List Row) (s : State) → Questions rows s

-- a run makes each of its calls, in order: none, one, and one list of calls after another
pub record Runs (rows : List Row) (s : State) : Type 0 where
  pub none : run_from rows [] s ≡ s
  pub one : (c : Call) → run_from rows (c ∷ []) s ≡ called rows c s
  pub joined : (xs ys : List Call) → run_from rows (xs ++ ys) s ≡ run_from rows ys (run_from rows xs s)

-- so it is from every state
abbrev pub CallsInOrder : Type 0
CallsInOrder = (rows : List Row) (s : State) → Runs rows s
