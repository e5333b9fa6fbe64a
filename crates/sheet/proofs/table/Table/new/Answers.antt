use Rattle.std.proofs.Common.{refl, lit≤}
use Rattle.periods.specs.Periods.{periods}
use Rattle.sheet.proofs.Padding.{blank_at}
use Rattle.sheet.proofs.table.Table.new.Goals as goal

pub invariant_of-result : goal.invariant_of-result
unfolding periods
invariant_of-result c = record { some = lit≤ tt; few = lit≤ tt; lawful = refl; full = refl; padded = (λ k h. blank_at 32 k) }
