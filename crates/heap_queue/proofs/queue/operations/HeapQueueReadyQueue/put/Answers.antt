use Rattle.std.proofs.Common.{◌+◌, ◌∷◌, length, take, sym, ◌∙◌, arith, rules}
use Rattle.std.proofs.lemmas.List.Sorted.{IsPermutation-refl}
use Rattle.std.proofs.lemmas.Result.{err_from_is_err_and}
use Rattle.ready.proofs.Lawful.{once_more, four_more}
use Rattle.ready.proofs.Puts.{put_refused, put_placed, welcome_where_ok}
use Rattle.heap_queue.specs.Waiting.{waiting_jobs}
use Rattle.heap_queue.proofs.Puts.{slots_answer, slot_left, never_full}
use Rattle.heap_queue.specs.Waits.{lawful_slots, distinct, one_added, known_added}
use Rattle.heap_queue.proofs.queue.operations.HeapQueueReadyQueue.put.Goals as goal

pub returns-in_err-check_put : goal.returns-in_err-check_put
unfolding waiting_jobs
returns-in_err-check_put c =
    let q = c.args.self.now in
    let j = c.args.job in
    let refused = c.in_err-check_put.ensures ∙ slots_answer q j in
    let p = err_from_is_err_and c.from_residual.result c.from_residual.ensures.1 in
    record {
      answer = p.1 ∙ rw p.2 refused;
      list = sym (put_refused j (waiting_jobs q) _ (sym refused));
    }

pub unreachable-requires : goal.unreachable-requires
unfolding waiting_jobs
unreachable-requires c =
    let q = c.args.self.now in
    let j = c.args.job in
    let w = welcome_where_ok j (waiting_jobs q) (sym (c.in_ok-check_put.ensures ∙ slots_answer q j)) in
    never_full (length q.slots) q.len c.in_default.field-0 q.whole (slot_left q j w) c.in_default.ensures.answer

pub invariant_of-self : goal.invariant_of-self
unfolding waiting_jobs
invariant_of-self c =
    let q = c.args.self.now in
    let j = c.args.job in
    let xs = take q.len q.slots in
    let ys = take (q.len + 1) c.add.new.slots in
    let after = c.in-Ok.ensures.after in
    let w = welcome_where_ok j (waiting_jobs q) (sym (c.in_ok-check_put.ensures ∙ slots_answer q j)) in
    let adds = one_added j xs ys after.entries in
    record {
      whole = search rules;
      within = omega (arith, slot_left q j w);
      heaped = after.heap q.heaped;
      known = known_added j xs ys after.entries w.known q.known;
      once = once_more j (waiting_jobs q) ys adds w (lawful_slots q).once;
      four = four_more j (waiting_jobs q) ys adds w (lawful_slots q).four;
    }

pub returns : goal.returns
unfolding waiting_jobs
returns c =
    let q = c.args.self.now in
    let j = c.args.job in
    let xs = take q.len q.slots in
    let answer = c.in_ok-check_put.ensures ∙ slots_answer q j in
    let w = welcome_where_ok j (waiting_jobs q) (sym answer) in
    record {
      answer = answer;
      list = c.in-Ok.ensures.after.list (distinct (j ∷ xs) (once_more j (waiting_jobs q) (j ∷ xs) (one_added j xs (j ∷ xs) (IsPermutation-refl (j ∷ xs))) w (lawful_slots q).once)) ∙ sym (put_placed j (waiting_jobs q) (sym answer));
    }
