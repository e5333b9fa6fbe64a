use Rattle.rules.proofs.Laws.{every_on_time, every_lost, every_order, every_proper}
use Rattle.rules.proofs.theorems.pending_jobs_are_the_released_and_not_done.Goals as goal

pub returns : goal.returns
returns c = record { on_time = every_on_time; nothing_lost = every_lost; in_order = every_order; proper = every_proper }
