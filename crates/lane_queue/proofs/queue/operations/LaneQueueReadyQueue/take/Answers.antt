use Rattle.std.proofs.Common.{◌≡◌, ℕ, ◌^◌, ◌<◌, cond, eqb, ltb, List, ◌∷◌, length, get_or, sym, ap, ◌∙◌, subst, arith}
use Rattle.std.proofs.lemmas.List.{get_or_default, length-set}
use Rattle.ready.specs.declared.job.Job.{Job}
use Rattle.ready.specs.Waiting.{first_of, rest_of}
use Rattle.lane_queue.specs.declared.lane.Lane.{Lane}
use Rattle.lane_queue.specs.Lanes.{lane_jobs, empty}
use Rattle.lane_queue.specs.Words.{bit}
use Rattle.lane_queue.specs.Waiting.{waiting_jobs}
use Rattle.lane_queue.proofs.Bits.{bit_without}
use Rattle.lane_queue.proofs.Takes as takes
use Rattle.lane_queue.proofs.queue.operations.LaneQueueReadyQueue.take.Goals as goal
use Rattle.lane_queue.proofs.queue.operations.LaneQueueReadyQueue.take.Goals.{then-lane-eq0, else-lane-eq0}

pub returns-in_err-i : goal.returns-in_err-i
unfolding waiting_jobs
returns-in_err-i c =
    let none = takes.idle_ordered c.args.self.now.lanes c.in_err-i.ensures in
    record { answer = c.from_residual.ensures ∙ sym (ap first_of none); list = none ∙ sym (ap rest_of none) }

-- what a lane gives up, at whatever default the lane is read
jobs_are : (ls : List Lane) (i : ℕ) (d m : Lane) (x : Job) → i < length ls → lane_jobs (get_or ls i d) ≡ x ∷ lane_jobs m → lane_jobs (get_or ls i empty) ≡ x ∷ lane_jobs m
jobs_are ls i d m x l e = sym (ap lane_jobs (get_or_default ls i d empty l)) ∙ e

pub overflow_sub-self : goal.overflow_sub-self
overflow_sub-self c =
    let q = c.args.self.now in
    omega (arith, q.counted, takes.take_length q.lanes q.owned c.in_ok-i.i c.in_ok-i.ensures c.remove_first-job.new.self c.remove_first-job.result (jobs_are q.lanes c.in_ok-i.i c.index-self-i.result c.remove_first-job.new.self c.remove_first-job.result c.in_ok-i.ensures.0 c.remove_first-job.ensures.jobs))

pub invariant_of-self : goal.invariant_of-self
invariant_of-self c =
    let q = c.args.self.now in
    let ls = q.lanes in
    let i = c.in_ok-i.i in
    let leads = c.in_ok-i.ensures in
    let m = c.remove_first-job.new.self in
    let x = c.remove_first-job.result in
    let are = jobs_are ls i c.index-self-i.result m x leads.0 c.remove_first-job.ensures.jobs in
    let fits : q.used < 2 ^ 32 = omega arith in
    let P : ℕ → Type 0 = λ word. (k : ℕ) → bit k word ≡ cond (eqb k i) (cond (ltb 0 m.len) 1 0) (bit k q.used) in
    let word : P c.if-lane-eq0.self.1.1.0 = elim c.if-lane-eq0.branch [
      | then-lane-eq0 w ↦ subst P (sym (ap (λ s. s.1.1.0) w.self-is)) (takes.bit_goes ls q.owned i leads m x are q.used w.without_bit-self.result w.if-lane-eq0.true (λ k. ap (bit k) w.without_bit-self.ensures ∙ bit_without q.used i (omega (arith, q.whole, leads.0)) fits k))
      | else-lane-eq0 w ↦ subst P (sym (ap (λ s. s.1.1.0) w.self-is)) (takes.bit_stays ls q.owned i leads m x are q.used q.marked (omega (arith, w.if-lane-eq0.false)))
    ] in
    let n = takes.take_length ls q.owned i leads m x are in
    record { whole = length-set ls i m ∙ q.whole; marked = takes.take_marked ls q.owned i leads m x are q.used c.if-lane-eq0.self.1.1.0 q.marked word; counted = omega (arith, q.counted); owned = takes.take_owned ls q.owned i leads m x are; once = takes.take_once ls q.owned i leads m x are q.once }

pub returns : goal.returns
unfolding waiting_jobs
returns c =
    let q = c.args.self.now in
    let e = takes.take_ordered q.lanes q.owned c.in_ok-i.i c.in_ok-i.ensures c.remove_first-job.new.self c.remove_first-job.result (jobs_are q.lanes c.in_ok-i.i c.index-self-i.result c.remove_first-job.new.self c.remove_first-job.result c.in_ok-i.ensures.0 c.remove_first-job.ensures.jobs) in
    record { answer = sym (ap first_of e); list = sym (ap rest_of e) }
