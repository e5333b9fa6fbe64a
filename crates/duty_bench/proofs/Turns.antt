-- The tick as the bench does it is the tick of the rules.
use Rattle.std.proofs.Common.{◌≡◌, List, [], ◌∷◌, Some, None, Option, refl}
use Rattle.sheet.specs.declared.row.Row.{Row}
use Rattle.ready.specs.declared.job.Job.{Job}
use Rattle.rules.specs.declared.hand.Held.{Held}
use Rattle.rules.specs.State.{State}
use Rattle.rules.specs.declared.letter.Letter.{Letter}
use Rattle.rules.specs.Tick.{turn_of, after_turn, line_of}
use Rattle.duty_bench.specs.Stages.{picked, started, moved, line_by}

-- the state with that hand and that waiting list
with_jobs : Option Held → List Job → State → State
with_jobs h js s = record {
  clock = s.clock;
  waiting = js;
  hand = h;
  previous = s.previous;
  tasks = s.tasks;
  counts = s.counts;
  miss = s.miss;
}

moved_by_cases : (rows : List Row) (l : Letter) (h : Option Held) (js : List Job) (s : State)
    → moved rows l (started rows (picked (with_jobs h js s))) ≡ after_turn rows l (turn_of h js) (with_jobs h js s)
unfolding with_jobs
moved_by_cases rows l None [] s = refl
moved_by_cases rows l None (j ∷ js) s = refl
moved_by_cases rows l (Some held) js s = refl

pub turn_moved : (rows : List Row) (l : Letter) (s : State)
    → moved rows l (started rows (picked s)) ≡ after_turn rows l (turn_of s.hand s.waiting) s
unfolding with_jobs
turn_moved rows l s = moved_by_cases rows l s.hand s.waiting s

line_by_cases : (rows : List Row) (l : Letter) (h : Option Held) (js : List Job) (s : State)
    → line_by rows l (picked (with_jobs h js s)).hand s.clock ≡ line_of rows l (turn_of h js) (with_jobs h js s)
unfolding with_jobs
line_by_cases rows l None [] s = refl
line_by_cases rows l None (j ∷ js) s = refl
line_by_cases rows l (Some held) js s = refl

pub turn_line : (rows : List Row) (l : Letter) (s : State)
    → line_by rows l (picked s).hand s.clock ≡ line_of rows l (turn_of s.hand s.waiting) s
unfolding with_jobs
turn_line rows l s = line_by_cases rows l s.hand s.waiting s
