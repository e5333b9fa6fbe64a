-- The bytes of each line of the log.
use Rattle.std.specs.Prelude.{ℕ, List, [], ◌∷◌, ◌++◌, Some, None, Ok, Err, codes, decimal, unwrap_or, Option, Result}
use Rattle.sheet.specs.Faults.{number_of as fault_number, layer_of, layer_number, row_of_fault}
use Rattle.verdict.specs.Test.{number_of as verdict_number}
use Rattle.duty_log.specs.declared.line.Event.{Event}
use Rattle.duty_log.specs.declared.line.Event.TheVariants.{PutBack, Held, Done, Idle}
use Rattle.duty_log.specs.declared.line.Tick.{Tick}
use Rattle.duty_log.specs.declared.line.Miss.{Miss}
use Rattle.duty_log.specs.declared.line.End.{End}
use Rattle.duty_log.specs.declared.line.Outcome.{Outcome}
use Rattle.duty_log.specs.declared.line.Numbered.{Numbered}
use Rattle.duty_log.specs.declared.line.Numbered.TheVariants as numbered
use Rattle.duty_log.specs.declared.line.Line.{Line}
use Rattle.duty_log.specs.declared.line.Line.TheVariants as line
use Rattle.duty_log.specs.declared.refusal.StepRefusal.{StepRefusal}
use Rattle.duty_log.specs.Refusals.{step_number}

-- the letter of an event: r put back, h held, d done, i idle
abbrev pub letter_of : Event → ℕ
letter_of PutBack = 114
letter_of Held = 104
letter_of Done = 100
letter_of Idle = 105

-- a line of words: a single space (byte 32) between two of them, and byte 10 after the last
abbrev pub line_of : List (List ℕ) → List ℕ
line_of [] = 10 ∷ []
line_of (w ∷ []) = w ++ 10 ∷ []
line_of (w ∷ v ∷ ws) = w ++ 32 ∷ line_of (v ∷ ws)

-- a tick line: clock, task, job, units left, and the letter of the event
abbrev pub tick_bytes : Tick → List ℕ
tick_bytes t = line_of (decimal t.clock ∷ decimal t.task ∷ decimal t.job ∷ decimal t.left ∷ (letter_of t.event ∷ []) ∷ [])

-- a miss line: the word, task, job
abbrev pub miss_bytes : Miss → List ℕ
miss_bytes m = line_of (codes "miss" ∷ decimal m.task ∷ decimal m.job ∷ [])

-- the last line: the word, clock, idle ticks, jobs begun, interruptions
abbrev pub end_bytes : End → List ℕ
end_bytes e = line_of (codes "end" ∷ decimal e.clock ∷ decimal e.idle ∷ decimal e.begun ∷ decimal e.interruptions ∷ [])

-- the bytes of a line of plain numbers
abbrev pub numbered_bytes : Numbered → List ℕ
numbered_bytes (numbered.Verdict n) = line_of (codes "verdict" ∷ decimal n ∷ [])
numbered_bytes (numbered.Sheet number layer row) = line_of (codes "sheet" ∷ decimal number ∷ decimal layer ∷ decimal row ∷ [])
numbered_bytes (numbered.Refused n) = line_of (codes "refused" ∷ decimal n ∷ [])

-- the bytes of a line: of a verdict its number; of a refused sheet the fault's number, its layer's, and the row or 0; of a refused step its number
abbrev pub bytes_of : Line → List ℕ
bytes_of line.Head = codes "tick task job left event\n"
bytes_of (line.Verdict verdict) = numbered_bytes (numbered.Verdict (verdict_number verdict))
bytes_of (line.Sheet fault) = numbered_bytes (numbered.Sheet (fault_number fault) (layer_number (layer_of fault)) (unwrap_or (row_of_fault fault) 0))
bytes_of (line.Tick t) = tick_bytes t
bytes_of (line.Miss m) = miss_bytes m
bytes_of (line.Refused refusal) = numbered_bytes (numbered.Refused (step_number refusal))
bytes_of (line.End e) = end_bytes e

-- the line of a miss, or nothing
abbrev pub missed_bytes : Option Miss → List ℕ
missed_bytes None = []
missed_bytes (Some m) = miss_bytes m

-- what a step adds to the log: its tick line, then its miss line if it has one
abbrev pub outcome_bytes : Outcome → List ℕ
outcome_bytes o = tick_bytes o.tick ++ missed_bytes o.miss

-- what a step's answer adds to the log: its tick line and its miss line if it has one; or a refused step's own line
abbrev pub answer_bytes : Result Outcome StepRefusal → List ℕ
answer_bytes (Ok outcome) = outcome_bytes outcome
answer_bytes (Err refusal) = bytes_of (line.Refused refusal)

-- the most bytes that a line, or a step's one or two lines, can have
abbrev pub longest : ℕ
longest = 73
