use Rattle.std.proofs.Common.{refl}
use Rattle.std.specs.Fmt.{digits}
use Rattle.c_bench.proofs.theorems.worked_lines.Goals as goal

pub returns : goal.returns
unfolding digits
returns c = record { admitted = refl; fails = refl; not_judged = refl; run = refl; stopped = refl; not_run = refl; not_rewritten = refl }
