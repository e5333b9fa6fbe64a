use Rattle.std.proofs.Common.{refl}
use Rattle.duty_bench.proofs.parts.Parts.work.Goals as goal

pub finish-requires-clause-hand : goal.finish-requires-clause-hand
finish-requires-clause-hand g c = (c.in-Holding-Finish.held.holds, refl)

pub finish-requires-then-ran-le1-clause-hand : goal.finish-requires-then-ran-le1-clause-hand
finish-requires-then-ran-le1-clause-hand g c = (c.in-Holding-Hold.held.holds, refl)

pub put_back-requires-clause-hand : goal.put_back-requires-clause-hand
put_back-requires-clause-hand g c = (c.in-Holding-Hold.held.holds, refl)

pub finish-requires-then-job-le1-clause-hand : goal.finish-requires-then-job-le1-clause-hand
finish-requires-then-job-le1-clause-hand g c = (c.in-Holding-Run.held.holds, refl)

pub put_back-requires-else-job-le1-clause-hand : goal.put_back-requires-else-job-le1-clause-hand
put_back-requires-else-job-le1-clause-hand g c = (c.in-Holding-Run.held.holds, refl)
