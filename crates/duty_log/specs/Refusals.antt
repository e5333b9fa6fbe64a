-- The numbers of the refusals of steps and of the log.
use Rattle.std.specs.Prelude.{ℕ}
use Rattle.duty_log.specs.declared.refusal.StepRefusal.{StepRefusal}
use Rattle.duty_log.specs.declared.refusal.StepRefusal.TheVariants.{Stopped, LastClock, NoSuchLetter}
use Rattle.duty_log.specs.declared.refusal.LogRefusal.{LogRefusal}
use Rattle.duty_log.specs.declared.refusal.LogRefusal.TheVariants.{ShortBuffer}

abbrev pub step_number : StepRefusal → ℕ
step_number Stopped = 12
step_number LastClock = 13
step_number NoSuchLetter = 14

abbrev pub number_of : LogRefusal → ℕ
number_of ShortBuffer = 19
