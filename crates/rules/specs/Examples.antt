-- Worked runs, which the checker computes.
use Rattle.std.specs.Prelude.{◌≡◌, ℕ, List, [], ◌∷◌, map, replicate, Some, None, Ok, Err, codes, Result}
use Rattle.sheet.specs.declared.row.Row.{Row}
use Rattle.duty_log.specs.declared.line.Event.TheVariants.{PutBack, Held, Done, Idle}
use Rattle.duty_log.specs.declared.line.Outcome.{Outcome}
use Rattle.duty_log.specs.declared.refusal.StepRefusal.{StepRefusal}
use Rattle.rules.specs.declared.call.Call.{Call}
use Rattle.rules.specs.declared.call.Call.TheVariants.{Step}
use Rattle.duty_log.specs.declared.refusal.StepRefusal.TheVariants.{Stopped, LastClock, NoSuchLetter}
use Rattle.rules.specs.declared.refusal.QuestionRefusal.TheVariants.{NoSuchTask}
use Rattle.rules.specs.State.{no_counts}
use Rattle.rules.specs.Step.{step, task_answer, first_answer}
use Rattle.rules.specs.Run.{after_run, closing_of}
use Rattle.rules.specs.Deadlines.{deadlines_by, releases_before}
use Rattle.duty_log.specs.Refusals.{step_number}
use Rattle.rules.specs.Refusals.{question_number}

-- a row by phase, period, execution, deadline and hold, for periods whose code is the period itself
abbrev pub row : (f p e d h : ℕ) → Row
row f p e d h = record { label = replicate 8 32; phase = f; period = p; code = p; execution = e; deadline = d; hold = h }

-- the calls of a string of letters
abbrev pub letters : List ℕ → List Call
letters cs = map Step cs

-- two rows of which the second may hold
abbrev pub sounder : List Row
sounder = row 0 4 1 3 0 ∷ row 2 6 3 6 1 ∷ []

-- two rows that ask more units than there are ticks
abbrev pub overloaded : List Row
overloaded = row 0 4 2 2 0 ∷ row 0 4 3 4 0 ∷ []

-- two rows that take turns
abbrev pub shifted : List Row
shifted = row 0 4 2 2 0 ∷ row 2 4 2 2 0 ∷ []

-- the answer of the step after a run
abbrev pub answer_after : List Row → List Call → ℕ → Result Outcome StepRefusal
answer_after rows calls c = (step rows c (after_run rows calls)).answer

-- runs that miss a deadline, that go on, and that hold
pub record Examples : Type 0 where
  pub late : (after_run overloaded (letters (codes "rrrr"))).miss ≡ Some (record { key = 4; task = 2; number = 1; left = 1 })
  pub late_clock : (after_run overloaded (letters (codes "rrrr"))).clock ≡ 4
  pub calm : (after_run shifted (letters (codes "rrrrrrrr"))).miss ≡ None
  pub calm_counts : (after_run shifted (letters (codes "rrrrrrrr"))).counts ≡ record { idle = 0; begun = 4; interruptions = 0 }
  pub held : (after_run sounder (letters (codes "rrrhrr"))).counts.interruptions ≡ 0
  pub ended : answer_after sounder (letters (codes "rr")) 102 ≡ Ok (record { tick = record { clock = 2; task = 2; job = 1; left = 2; event = Done }; miss = None })
  pub whole_clock : (after_run sounder (letters (codes "rrrrrr"))).clock ≡ 6
  pub whole : (after_run sounder (letters (codes "rrrrrr"))).counts ≡ record { idle = 1; begun = 3; interruptions = 1 }

-- each event as it is answered, the miss of a step, and each refusal
pub record Answered : Type 0 where
  pub idle : answer_after sounder (letters (codes "r")) 114 ≡ Ok (record { tick = record { clock = 1; task = 0; job = 0; left = 0; event = Idle }; miss = None })
  pub put_back : answer_after sounder (letters (codes "rr")) 114 ≡ Ok (record { tick = record { clock = 2; task = 2; job = 1; left = 2; event = PutBack }; miss = None })
  pub held : answer_after sounder (letters (codes "rrr")) 104 ≡ Ok (record { tick = record { clock = 3; task = 2; job = 1; left = 1; event = Held }; miss = None })
  pub held_twice : answer_after (row 0 8 4 8 2 ∷ []) (letters (codes "h")) 104 ≡ Ok (record { tick = record { clock = 1; task = 1; job = 1; left = 2; event = Held }; miss = None })
  pub held_enough : answer_after (row 0 8 4 8 2 ∷ []) (letters (codes "hh")) 104 ≡ Ok (record { tick = record { clock = 2; task = 1; job = 1; left = 1; event = PutBack }; miss = None })
  pub missed : answer_after overloaded (letters (codes "rrr")) 114 ≡ Ok (record { tick = record { clock = 3; task = 2; job = 1; left = 1; event = PutBack }; miss = Some (record { task = 2; job = 1 }) })
  pub stopped : answer_after overloaded (letters (codes "rrrr")) 114 ≡ Err Stopped
  pub stopped_first : answer_after overloaded (letters (codes "rrrr")) 120 ≡ Err Stopped
  pub no_letter : answer_after sounder [] 120 ≡ Err NoSuchLetter
  pub no_capital : answer_after sounder [] 82 ≡ Err NoSuchLetter

-- three rows of which the third holds while the second is released with the same deadline
abbrev pub tied : List Row
tied = row 0 8 1 1 0 ∷ row 2 8 1 2 0 ∷ row 0 8 4 4 4 ∷ []

-- of two late jobs with one key the smaller task is the miss, and not the job in the hand
pub record Missing : Type 0 where
  pub smaller_task : (after_run tied (letters (codes "rhhh"))).miss ≡ Some (record { key = 4; task = 2; number = 1; left = 1 })

-- two rows of which the first may hold
abbrev pub holding : List Row
holding = row 0 4 2 4 1 ∷ row 0 8 2 8 0 ∷ []

-- questions: a job in the hand does not wait; tasks are counted from 1
pub record Asked : Type 0 where
  pub first : first_answer (after_run holding (letters (codes "h"))) ≡ Some (record { key = 8; task = 2; number = 1; left = 2 })
  pub none : first_answer (after_run sounder (letters (codes "r"))) ≡ None
  pub counts : task_answer sounder 1 (after_run sounder (letters (codes "rrrrrr"))) ≡ Ok (record { released = 2; done = 2; given = 2 })
  pub last : task_answer sounder 2 (after_run sounder (letters (codes "rrrrrr"))) ≡ Ok (record { released = 1; done = 1; given = 3 })
  pub task_0 : task_answer sounder 0 (after_run sounder (letters (codes "rrrrrr"))) ≡ Err NoSuchTask
  pub task_3 : task_answer sounder 3 (after_run sounder (letters (codes "rrrrrr"))) ≡ Err NoSuchTask

-- two rows of which the first takes over from the second, which then is late
abbrev pub crossed : List Row
crossed = row 1 4 2 2 0 ∷ row 0 4 3 3 0 ∷ []

-- the closing of a stopped bench, and of one that has just been idle
pub record Closed : Type 0 where
  pub stopped : closing_of (after_run crossed (letters (codes "rrr"))) ≡ record {
    clock = 3;
    counts = record { idle = 0; begun = 2; interruptions = 1 };
    rows = 2;
    tasks = record { released = 1; done = 1; given = 2 } ∷ record { released = 1; done = 0; given = 1 } ∷ replicate 30 no_counts;
    miss = Some (record { key = 3; task = 2; number = 1; left = 2 });
  }
  pub running : closing_of (after_run sounder (letters (codes "rrrrrrr"))) ≡ record {
    clock = 7;
    counts = record { idle = 2; begun = 3; interruptions = 1 };
    rows = 2;
    tasks = record { released = 2; done = 2; given = 2 } ∷ record { released = 1; done = 1; given = 3 } ∷ replicate 30 no_counts;
    miss = None;
  }

-- deadlines at 11 and 17 of a row whose releases are at 2 and 8
abbrev pub slow : Row
slow = row 2 6 3 9 1

-- its deadlines and releases, counted
pub record CountedOut : Type 0 where
  pub none_due : deadlines_by slow 10 ≡ 0
  pub first_due : deadlines_by slow 11 ≡ 1
  pub still_one : deadlines_by slow 16 ≡ 1
  pub second_due : deadlines_by slow 17 ≡ 2
  pub none_out : releases_before slow 2 ≡ 0
  pub first_out : releases_before slow 3 ≡ 1
  pub still_first : releases_before slow 8 ≡ 1
  pub second_out : releases_before slow 9 ≡ 2

-- the numbers of the refusals
pub record Numbered : Type 0 where
  pub stopped : step_number Stopped ≡ 12
  pub last : step_number LastClock ≡ 13
  pub letter : step_number NoSuchLetter ≡ 14
  pub task : question_number NoSuchTask ≡ 15
