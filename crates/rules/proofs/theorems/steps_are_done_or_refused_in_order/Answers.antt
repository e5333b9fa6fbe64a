use Rattle.rules.proofs.Progress.{every_step}
use Rattle.rules.proofs.theorems.steps_are_done_or_refused_in_order.Goals as goal

pub returns : goal.returns
returns c = every_step
