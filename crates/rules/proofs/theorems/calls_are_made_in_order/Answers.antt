use Rattle.rules.proofs.CallsMade.{calls_in_order}
use Rattle.rules.proofs.theorems.calls_are_made_in_order.Goals as goal

pub returns-clause-calls : goal.returns-clause-calls
returns-clause-calls c = calls_in_order
