use Rattle.rules.proofs.Punctual.{bounded_punctual}
use Rattle.rules.proofs.theorems.bounded_demand_is_punctual.Goals as goal

pub returns : goal.returns
returns c = bounded_punctual
