use Rattle.std.proofs.Common.{refl}
use Rattle.std.specs.Fmt.{digits}
use Rattle.duty_log.proofs.theorems.longest_suffices.Goals as goal

pub returns-clause-reached : goal.returns-clause-reached
unfolding digits
returns-clause-reached c = refl
