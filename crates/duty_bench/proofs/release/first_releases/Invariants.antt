use Rattle.std.proofs.Common.{◌≡◌}
use Rattle.ready.specs.Sorted.{ordered}
use Rattle.heap.specs.Coming.{earlier}
use Rattle.heap.specs.Releases.{coming}
use Rattle.duty_bench.specs.Awaited.{one_each}
use Rattle.duty_bench.proofs.FirstReleases.{phases}
use Rattle.duty_bench.proofs.release.first_releases.Given as goal

-- the first releases of the tasks so far
abbrev pub invariant-loop-i : goal.invariant-loop-i
invariant-loop-i l = coming l.coming ≡ ordered earlier (one_each (phases l.rows) l.i)
