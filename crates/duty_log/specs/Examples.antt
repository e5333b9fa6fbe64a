-- Lines written out, for a reader to compare with the definitions.
use Rattle.std.specs.Prelude.{◌≡◌, ℕ, List, [], ◌∷◌, length, Some, None, Ok, Err, codes}
use Rattle.sheet.specs.declared.fault.Fault.TheVariants.{Short, Broken}
use Rattle.sheet.specs.declared.fault.Rule.TheVariants.{Deadline}
use Rattle.verdict.specs.declared.answer.Verdict.TheVariants.{Admitted, FailsAt}
use Rattle.duty_log.specs.declared.line.Event.{Event}
use Rattle.duty_log.specs.declared.line.Event.TheVariants.{PutBack, Held, Done, Idle}
use Rattle.duty_log.specs.declared.line.Tick.{Tick}
use Rattle.duty_log.specs.declared.line.Numbered.TheVariants as numbered
use Rattle.duty_log.specs.declared.line.Line.TheVariants as line
use Rattle.duty_log.specs.declared.refusal.StepRefusal.TheVariants.{Stopped, LastClock, NoSuchLetter}
use Rattle.duty_log.specs.declared.refusal.LogRefusal.TheVariants.{ShortBuffer}
use Rattle.duty_log.specs.Lines.{line_of, numbered_bytes, bytes_of, outcome_bytes, answer_bytes, longest}
use Rattle.duty_log.specs.Refusals.{number_of}
use Rattle.duty_log.specs.Written.{answer_of, buffer_of}

-- the tick line's fields in their order
abbrev tick : ℕ → ℕ → ℕ → ℕ → Event → Tick
tick clock task job left event = record { clock = clock; task = task; job = job; left = left; event = event }

-- the greatest number of 32 bits
abbrev most : ℕ
most = 4294967295

-- one line of each kind, each event, and numbers of ten digits
pub record LinesAsWritten : Type 0 where
  pub head : bytes_of line.Head ≡ codes "tick task job left event\n"
  pub head_words : bytes_of line.Head ≡ line_of (codes "tick" ∷ codes "task" ∷ codes "job" ∷ codes "left" ∷ codes "event" ∷ [])
  pub verdict : bytes_of (line.Verdict Admitted) ≡ codes "verdict 0\n"
  pub sheet : bytes_of (line.Sheet (Broken Deadline 2)) ≡ codes "sheet 7 3 2\n"
  pub short_sheet : bytes_of (line.Sheet Short) ≡ codes "sheet 1 1 0\n"
  pub done : bytes_of (line.Tick (tick 2 2 1 2 Done)) ≡ codes "2 2 1 2 d\n"
  pub idle : bytes_of (line.Tick (tick 1 0 0 0 Idle)) ≡ codes "1 0 0 0 i\n"
  pub put_back : bytes_of (line.Tick (tick 10 2 1 100 PutBack)) ≡ codes "10 2 1 100 r\n"
  pub held : bytes_of (line.Tick (tick most 32 most 1000000000 Held)) ≡ codes "4294967295 32 4294967295 1000000000 h\n"
  pub miss : bytes_of (line.Miss (record { task = 2; job = 1 })) ≡ codes "miss 2 1\n"
  pub refused : bytes_of (line.Refused NoSuchLetter) ≡ codes "refused 14\n"
  pub end : bytes_of (line.End (record { clock = 6; idle = 1; begun = 3; interruptions = 1 })) ≡ codes "end 6 1 3 1\n"

-- lines of plain numbers, of some that no verdict, no fault and no refusal has
pub record NumbersAsWritten : Type 0 where
  pub admitted : numbered_bytes (numbered.Verdict 0) ≡ codes "verdict 0\n"
  pub fails : numbered_bytes (numbered.Verdict 12) ≡ codes "verdict 12\n"
  pub sheet : numbered_bytes (numbered.Sheet 7 3 2) ≡ codes "sheet 7 3 2\n"
  pub other_sheet : numbered_bytes (numbered.Sheet 11 most 0) ≡ codes "sheet 11 4294967295 0\n"
  pub refused : numbered_bytes (numbered.Refused 14) ≡ codes "refused 14\n"
  pub other_refused : numbered_bytes (numbered.Refused 16) ≡ codes "refused 16\n"

-- a step's outcome with a miss and without one
pub record OutcomesAsWritten : Type 0 where
  pub missed : outcome_bytes (record { tick = tick 3 1 1 0 Done; miss = Some (record { task = 2; job = 1 }) }) ≡ codes "3 1 1 0 d\nmiss 2 1\n"
  pub punctual : outcome_bytes (record { tick = tick 3 1 1 0 Done; miss = None }) ≡ codes "3 1 1 0 d\n"

-- answers of steps, done and refused
pub record AnswersAsWritten : Type 0 where
  pub punctual : answer_bytes (Ok (record { tick = tick 3 2 1 1 PutBack; miss = None })) ≡ codes "3 2 1 1 r\n"
  pub missed : answer_bytes (Ok (record { tick = tick 3 2 1 1 PutBack; miss = Some (record { task = 2; job = 1 }) })) ≡ codes "3 2 1 1 r\nmiss 2 1\n"
  pub stopped : answer_bytes (Err Stopped) ≡ codes "refused 12\n"
  pub last_clock : answer_bytes (Err LastClock) ≡ codes "refused 13\n"
  pub no_letter : answer_bytes (Err NoSuchLetter) ≡ codes "refused 14\n"

-- the bytes of a missed tick where every number is the greatest
abbrev pub greatest_outcome : List ℕ
greatest_outcome = outcome_bytes (record { tick = tick most most most most Done; miss = Some (record { task = most; job = most }) })

-- two bytes written into buffers of three, of two and of one
pub record BuffersAsLeft : Type 0 where
  pub longer : answer_of (8 ∷ 9 ∷ []) (1 ∷ 2 ∷ 3 ∷ []) ≡ Ok 2
  pub longer_left : buffer_of (8 ∷ 9 ∷ []) (1 ∷ 2 ∷ 3 ∷ []) ≡ 8 ∷ 9 ∷ 3 ∷ []
  pub just : answer_of (8 ∷ 9 ∷ []) (1 ∷ 2 ∷ []) ≡ Ok 2
  pub just_left : buffer_of (8 ∷ 9 ∷ []) (1 ∷ 2 ∷ []) ≡ 8 ∷ 9 ∷ []
  pub shorter : answer_of (8 ∷ 9 ∷ []) (1 ∷ []) ≡ Err ShortBuffer
  pub shorter_left : buffer_of (8 ∷ 9 ∷ []) (1 ∷ []) ≡ 1 ∷ []
  pub number : number_of ShortBuffer ≡ 19

-- no shorter buffer would do for every step
pub record LongestReached : Type 0 where
  pub reached : length greatest_outcome ≡ longest

-- a verdict of two digits
pub record VerdictAsWritten : Type 0 where
  pub fails : bytes_of (line.Verdict (FailsAt 12)) ≡ codes "verdict 12\n"
