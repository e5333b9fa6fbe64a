use Rattle.rules.proofs.Accounted.{every_time}
use Rattle.rules.proofs.theorems.every_tick_is_accounted_for.Goals as goal

pub returns-clause-idle_or_given : goal.returns-clause-idle_or_given
returns-clause-idle_or_given c = every_time
