-- The letters of a step, and the characters that they are.
use Rattle.std.specs.Prelude.{◌≡◌, ℕ, cond, Some, None, Ok, Err, Option, Result, ◌==◌}
use Rattle.duty_log.specs.declared.refusal.StepRefusal.{StepRefusal}
use Rattle.duty_log.specs.declared.refusal.StepRefusal.TheVariants.{NoSuchLetter}
use Rattle.rules.specs.declared.letter.Letter.{Letter}
use Rattle.rules.specs.declared.letter.Letter.TheVariants.{Run, Hold, Finish}

-- the letter that a character is: r, h or f
abbrev pub letter_of : ℕ → Option Letter
letter_of c = cond (c == 114) (Some Run) (cond (c == 104) (Some Hold) (cond (c == 102) (Some Finish) None))

-- a letter, or the refusal where there is none
abbrev pub or_no_letter : Option Letter → Result Letter StepRefusal
or_no_letter None = Err NoSuchLetter
or_no_letter (Some l) = Ok l

-- what reading a character as a letter answers
abbrev pub IsReadAs : ℕ → Result Letter StepRefusal → Type 0
IsReadAs c r = r ≡ or_no_letter (letter_of c)
