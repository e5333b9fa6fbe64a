-- The number of a question's refusal. Those of a step's refusals stand with the lines of the log.
use Rattle.std.specs.Prelude.{ℕ}
use Rattle.rules.specs.declared.refusal.QuestionRefusal.{QuestionRefusal}
use Rattle.rules.specs.declared.refusal.QuestionRefusal.TheVariants.{NoSuchTask}

-- a task that is none of the table has the number 15
abbrev pub question_number : QuestionRefusal → ℕ
question_number NoSuchTask = 15
