-- The numbers of a queue's refusals.
use Rattle.std.specs.Prelude.{ℕ}
use Rattle.ready.specs.declared.refusal.PutRefusal.{PutRefusal}
use Rattle.ready.specs.declared.refusal.PutRefusal.TheVariants.{NoSuchTask, AlreadyWaits, FourWait}

abbrev pub number_of : PutRefusal → ℕ
number_of NoSuchTask = 16
number_of AlreadyWaits = 17
number_of FourWait = 18
