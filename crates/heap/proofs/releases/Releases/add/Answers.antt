use Rattle.std.proofs.Common.{leb, ◌∷◌, length, take, ap, ◌∙◌}
use Rattle.std.proofs.lemmas.Result.{err_from_is_err_and}
use Rattle.ready.specs.Sorted.{ordered}
use Rattle.heap.specs.Coming.{earlier}
use Rattle.heap.specs.Releases.{coming}
use Rattle.heap.proofs.Coming.{same_answer, list_taken, list_refused}
use Rattle.heap.proofs.EntryKinds.{releases_distinct}
use Rattle.heap.proofs.releases.Releases.add.Goals as goal

pub returns : goal.returns
unfolding coming
returns c =
    let h = c.args.self.now in
    let told = c.in_ok-add.ensures in
    let rs = ordered earlier (take h.len h.slots) in
    let answer = told.answer ∙ same_answer h.slots h.len h.whole h.within in
    record {
      answer = answer;
      list = told.after.list (releases_distinct (c.args.release ∷ take h.len h.slots)) ∙ list_taken c.args.release rs (leb 32 (length rs)) answer;
    }

pub returns-in_err-add : goal.returns-in_err-add
unfolding coming
returns-in_err-add c =
    let h = c.args.self.now in
    let told = c.in_err-add.ensures in
    let rs = ordered earlier (take h.len h.slots) in
    let answer = told.answer ∙ same_answer h.slots h.len h.whole h.within in
    let p = err_from_is_err_and c.from_residual.result c.from_residual.ensures.1 in
    record {
      answer = p.1 ∙ rw p.2 answer;
      list = ap (λ l. ordered earlier (take h.len l)) told.after ∙ list_refused c.args.release rs c.in_err-add.field-0.0 (leb 32 (length rs)) answer;
    }
