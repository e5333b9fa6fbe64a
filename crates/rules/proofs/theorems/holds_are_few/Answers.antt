use Rattle.rules.proofs.Laws.{every_holds}
use Rattle.rules.proofs.theorems.holds_are_few.Goals as goal

pub returns : goal.returns
returns c = every_holds
