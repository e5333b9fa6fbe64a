use Rattle.std.proofs.Common.{take, ◌∙◌}
use Rattle.heap.specs.Coming.{earlier}
use Rattle.heap.specs.Releases.{coming}
use Rattle.heap.proofs.EntryKinds.{release_order}
use Rattle.heap.proofs.Placing.{reads_first}
use Rattle.heap.proofs.releases.Releases.first.Goals as goal

pub returns : goal.returns
unfolding coming
returns c =
    let h = c.args.self.now in
    c.copied.ensures ∙ c.first.ensures.value ∙ reads_first earlier release_order (take h.len h.slots) h.heaped
