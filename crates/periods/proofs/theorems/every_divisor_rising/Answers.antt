use Rattle.std.proofs.Common.{refl}
use Rattle.periods.specs.Periods.{periods}
use Rattle.periods.proofs.Codes.{named_some}
use Rattle.periods.proofs.Divisors.{complete, divides, rising}
use Rattle.periods.proofs.theorems.every_divisor_rising.Goals as goal

pub returns : goal.returns
unfolding periods
returns c = record {
  divides = divides;
  rising = rising;
  complete = complete;
  named = named_some;
  places = record { first = refl; seventeenth = refl; last = refl };
  ends = record { named_first = refl; named_last = refl; none_before = refl; none_after = refl };
}
