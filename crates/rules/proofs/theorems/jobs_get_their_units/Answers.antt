use Rattle.rules.proofs.Given.{every_at_most, given_exactly}
use Rattle.rules.proofs.theorems.jobs_get_their_units.Goals as goal

pub returns : goal.returns
returns c = record { at_most = every_at_most; exactly = given_exactly }
