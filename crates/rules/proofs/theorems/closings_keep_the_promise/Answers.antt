use Rattle.rules.proofs.Closings.{every_closing}
use Rattle.rules.proofs.theorems.closings_keep_the_promise.Goals as goal

pub returns : goal.returns
returns c = every_closing
