use Rattle.std.proofs.Common.{◌-◌, take, sym, ap, ◌∙◌, arith, rules}
use Rattle.ready.specs.Order.{before}
use Rattle.ready.specs.Sorted.{ordered}
use Rattle.ready.specs.Waiting.{first_of, rest_of, stray, is_job, of_task}
use Rattle.heap.proofs.Storing.{no_slot}
use Rattle.heap_queue.specs.Waiting.{waiting_jobs}
use Rattle.heap_queue.specs.Waits.{distinct, fewer}
use Rattle.heap_queue.proofs.queue.operations.HeapQueueReadyQueue.take.Goals as goal

pub invariant_of-self-2 : goal.invariant_of-self-2
invariant_of-self-2 c =
    let q = c.args.self.now in
    let job = c.in_ok-job.job in
    let after = c.in_ok-job.ensures.after in
    let xs = take q.len q.slots in
    let ys = take (q.len - 1) c.remove.new.slots in record { whole = search rules; within = omega (arith, q.within); heaped = after.heap q.heaped; known = omega (arith, fewer (λ j. stray j.task) job xs ys after.entries, q.known); once = (λ task number. omega (arith, fewer (is_job task number) job xs ys after.entries, q.once task number)); four = (λ task. omega (arith, fewer (of_task task) job xs ys after.entries, q.four task)) }

pub returns : goal.returns
unfolding waiting_jobs
returns c =
    let q = c.args.self.now in
    let after = c.in_ok-job.ensures.after in
    let list = after.list q.heaped (distinct (take q.len q.slots) q.once) in
    record { answer = sym (ap first_of list); list = sym (ap rest_of list) }

pub returns-in_err-job : goal.returns-in_err-job
unfolding waiting_jobs
returns-in_err-job c =
    let q = c.args.self.now in
    let told = c.in_err-job.ensures in
    let none = ap (ordered before) (no_slot q.len q.slots (omega (arith, q.whole, q.within)) told.answer) in
    record {
      answer = c.from_residual.ensures ∙ sym (ap first_of none);
      list = ap (λ l. ordered before (take q.len l)) told.after ∙ none ∙ sym (ap rest_of none);
    }
