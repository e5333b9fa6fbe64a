use Rattle.rules.proofs.Laws.{every_accepted}
use Rattle.rules.proofs.theorems.puts_are_never_refused.Goals as goal

pub returns : goal.returns
returns c = every_accepted
