use Rattle.rules.proofs.Interruptions.{few_interruptions}
use Rattle.rules.proofs.theorems.interruptions_are_few.Goals as goal

pub returns : goal.returns
returns c = few_interruptions
