use Rattle.std.proofs.Common.{take, sym, ap, ◌∙◌, arith}
use Rattle.ready.specs.Sorted.{ordered}
use Rattle.ready.specs.Waiting.{first_of, rest_of}
use Rattle.heap.specs.Coming.{earlier}
use Rattle.heap.specs.Releases.{coming}
use Rattle.heap.proofs.EntryKinds.{releases_distinct}
use Rattle.heap.proofs.Storing.{no_slot}
use Rattle.heap.proofs.releases.Releases.take.Goals as goal

pub returns : goal.returns
unfolding coming
returns c =
    let h = c.args.self.now in
    let after = c.in_ok-release.ensures.after in
    let list = after.list h.heaped (releases_distinct (take h.len h.slots)) in
    record { answer = sym (ap first_of list); list = sym (ap rest_of list) }

pub returns-in_err-release : goal.returns-in_err-release
unfolding coming
returns-in_err-release c =
    let h = c.args.self.now in
    let told = c.in_err-release.ensures in
    let none = ap (ordered earlier) (no_slot h.len h.slots (omega (arith, h.whole, h.within)) told.answer) in
    record {
      answer = c.from_residual.ensures ∙ sym (ap first_of none);
      list = ap (λ l. ordered earlier (take h.len l)) told.after ∙ none ∙ sym (ap rest_of none);
    }
