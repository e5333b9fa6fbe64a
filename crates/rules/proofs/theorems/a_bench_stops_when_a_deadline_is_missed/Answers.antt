use Rattle.rules.proofs.Stops.{every_while_in_time, every_miss}
use Rattle.rules.proofs.theorems.a_bench_stops_when_a_deadline_is_missed.Goals as goal

pub returns : goal.returns
returns c = record { while_in_time = every_while_in_time; miss_is_late = every_miss }
