use Rattle.std.proofs.Common.{◌+◌, ◌-◌, ◌≤◌, sym, ◌∙◌, subst, arith}
use borrow.Rule.Slice.PartMut.{same_len_mid}
use Rattle.std.proofs.lemmas.Result.{err_from_is_err_and}
use Rattle.ready.specs.Waiting.{Lawful}
use Rattle.ready.proofs.Lawful.{lawful_placed, lawful_had}
use Rattle.ready.proofs.Puts.{put_refused, put_placed, welcome_where_ok}
use Rattle.plain_queue.specs.Waiting.{waiting_of}
use Rattle.plain_queue.proofs.Puts.{slots_answer, slot_left, put_slots}
use Rattle.plain_queue.proofs.operations.PlainQueueReadyQueue.put.Goals as goal

pub returns-in_err-check_put : goal.returns-in_err-check_put
returns-in_err-check_put c =
    let q = c.args.self.now in
    let j = c.args.job in
    let refused = c.in_err-check_put.ensures ∙ slots_answer j q.count q.slots in
    let p = err_from_is_err_and c.from_residual.result c.from_residual.ensures.1 in
    record {
      answer = p.1 ∙ rw p.2 refused;
      list = sym (put_refused j (waiting_of q) _ (sym refused));
    }

pub slice_bounds-place-end : goal.slice_bounds-place-end
slice_bounds-place-end c =
    let q = c.args.self.now in
    let j = c.args.job in
    let w = welcome_where_ok j (waiting_of q) (sym (c.in_ok-check_put.ensures ∙ slots_answer j q.count q.slots)) in
    slot_left j q.count q.slots (lawful_had _ q.lawful) (omega arith) w

pub invariant_of-self : goal.invariant_of-self
invariant_of-self c =
    let q = c.args.self.now in
    let j = c.args.job in
    let w = welcome_where_ok j (waiting_of q) (sym (c.in_ok-check_put.ensures ∙ slots_answer j q.count q.slots)) in
    let lawful = lawful_had _ q.lawful in
    let fits : q.count + 1 ≤ 128 = slot_left j q.count q.slots lawful (omega arith) w in
    let list = put_slots j q.count q.slots c.place.new.slots (omega arith) c.place.auto.slots c.place.ensures in
    let sized = same_len_mid 0 (q.count + 1 - 0) q.slots c.place.new.slots c.place.auto.slots ∙ q.sized in
    record { sized = sized; within = fits; lawful = ∣ subst Lawful (sym list) (lawful_placed j (waiting_of q) lawful w) ∣₁ }

pub returns : goal.returns
returns c =
    let q = c.args.self.now in
    let j = c.args.job in
    let answer = c.in_ok-check_put.ensures ∙ slots_answer j q.count q.slots in
    let w = welcome_where_ok j (waiting_of q) (sym answer) in
    let fits : q.count + 1 ≤ 128 = slot_left j q.count q.slots (lawful_had _ q.lawful) (omega arith) w in
    let list = put_slots j q.count q.slots c.place.new.slots (omega arith) c.place.auto.slots c.place.ensures in
    record { answer = answer; list = list ∙ sym (put_placed j (waiting_of q) (sym answer)) }
