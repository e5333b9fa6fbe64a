use Rattle.rules.proofs.Begun.{every_begun}
use Rattle.rules.proofs.theorems.begun_jobs_have_had_a_tick.Goals as goal

pub returns : goal.returns
returns c = every_begun
