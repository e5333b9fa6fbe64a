use Rattle.rules.proofs.Laws.{met_if_punctual}
use Rattle.rules.proofs.Punctual.{punctual}
use Rattle.rules.proofs.theorems.admitted_tables_meet_their_deadlines.Goals as goal

pub returns : goal.returns
returns c = met_if_punctual punctual
