use Rattle.rules.proofs.Laws.{every_lawful}
use Rattle.rules.proofs.theorems.waiting_jobs_are_lawful.Goals as goal

pub returns : goal.returns
returns c = every_lawful
