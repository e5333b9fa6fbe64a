use Rattle.rules.proofs.Laws.{every_fits}
use Rattle.rules.proofs.theorems.numbers_fit.Goals as goal

pub returns : goal.returns
returns c = every_fits
