use Rattle.rules.proofs.Laws.{every_urgent}
use Rattle.rules.proofs.theorems.the_most_urgent_job_runs.Goals as goal

pub returns : goal.returns
returns c = every_urgent
