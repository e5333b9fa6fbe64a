use Rattle.rules.proofs.Devi.{devi_bounds}
use Rattle.rules.proofs.theorems.devi_bounds_demand.Goals as goal

pub returns : goal.returns
returns c = devi_bounds
