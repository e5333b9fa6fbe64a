use Rattle.std.proofs.Common.{refl}
use Rattle.periods.specs.Periods.{periods}
use Rattle.verdict.proofs.theorems.examples_hold.Goals as goal

pub returns : goal.returns
unfolding periods
returns c = record {
  passing = record { lawful = refl; asked_first = refl; room_first = refl; asked_second = refl; room_second = refl; answer = refl };
  exactly = record { lawful = refl; asked_first = refl; room_first = refl; answer = refl };
  blocked = record { lawful = refl; answer = refl };
  overloaded = record { lawful = refl; answer = refl };
  staggered = record { lawful = refl; answer = refl };
  longer = record { lawful = refl; asked_first = refl; answer = refl };
  numbered = record { admitted = refl; first = refl; second = refl };
}
