use Rattle.rules.proofs.Punctual.{punctual}
use Rattle.rules.proofs.theorems.admitted_tables_are_punctual.Goals as goal

pub returns : goal.returns
returns c = punctual
