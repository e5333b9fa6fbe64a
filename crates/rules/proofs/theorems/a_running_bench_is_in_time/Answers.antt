use Rattle.rules.proofs.Laws.{every_in_time}
use Rattle.rules.proofs.theorems.a_running_bench_is_in_time.Goals as goal

pub returns : goal.returns
returns c = every_in_time
