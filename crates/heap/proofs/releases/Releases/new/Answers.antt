use Rattle.std.proofs.Common.{refl}
use Rattle.heap.specs.Releases.{coming}
use Rattle.heap.proofs.releases.Releases.new.Goals as goal

pub returns : goal.returns
unfolding coming
returns c = refl
