use Rattle.std.proofs.Common.{◌≡◌, ◌+◌, ◌-◌, ◌<◌, ◌≤◌, false, leb, length, get_or, count_by, sym, ap, ◌∙◌, subst, arith}
use Rattle.std.specs.List.{flat_map, list_any}
use Rattle.std.proofs.lemmas.List.{get_or_default, length-set}
use Rattle.std.proofs.lemmas.Bool.{leb-true, leb-false}
use Rattle.ready.specs.declared.job.Job.{Job}
use Rattle.ready.specs.declared.refusal.PutRefusal.TheVariants.{AlreadyWaits, FourWait}
use Rattle.ready.specs.Order.{before}
use Rattle.ready.specs.Sorted.{placed}
use Rattle.ready.specs.Waiting.{is_job, of_task}
use Rattle.ready.proofs.Orderings as orderings
use Rattle.ready.proofs.Counting.{list_any_counts}
use Rattle.ready.proofs.Lawful.{Welcome, known_task, lawful_most}
use Rattle.ready.proofs.Puts as answers
use Rattle.lane_queue.specs.declared.lane.Lane.{Lane}
use Rattle.lane_queue.specs.declared.queue.LaneQueue.{LaneQueue}
use Rattle.lane_queue.specs.Lanes.{lane_jobs, of_number, empty}
use Rattle.lane_queue.specs.Waiting.{waiting_jobs}
use Rattle.lane_queue.specs.Words.{bit}
use Rattle.lane_queue.proofs.Bits.{bit_with}
use Rattle.lane_queue.specs.LanesLemmas.{lawful_lanes}
use Rattle.lane_queue.proofs.Puts as puts
use Rattle.lane_queue.proofs.queue.operations.LaneQueueReadyQueue.put.Goals as goal

-- the lane of a job of task 1 to 32, read at any default
module _ (q : LaneQueue) (job : Job) (d : Lane) (low : job.task ≡ 0 → ⊥) (high : job.task ≤ 32) where
  task : job.task ≡ job.task - 1 + 1
  task = omega arith

  in' : job.task - 1 < length q.lanes
  in' = omega (arith, q.whole)

  lane : get_or q.lanes (job.task - 1) d ≡ get_or q.lanes (job.task - 1) empty
  lane = get_or_default q.lanes (job.task - 1) d empty in'

  jobs_waiting : count_by (of_number job.number) (lane_jobs (get_or q.lanes (job.task - 1) d)) ≡ count_by (is_job job.task job.number) (waiting_jobs q)
  unfolding waiting_jobs
  jobs_waiting = ap (λ (l : Lane). count_by (of_number job.number) (lane_jobs l)) lane ∙ sym (puts.counts_number q.lanes q.owned (job.task - 1) job in' task)

  found : list_any (of_number job.number) (lane_jobs (get_or q.lanes (job.task - 1) d)) ≡ leb 1 (count_by (of_number job.number) (lane_jobs (get_or q.lanes (job.task - 1) d)))
  found = list_any_counts (of_number job.number) (lane_jobs (get_or q.lanes (job.task - 1) d))

  tasks_waiting : (get_or q.lanes (job.task - 1) d).len ≡ count_by (of_task job.task) (waiting_jobs q)
  unfolding waiting_jobs
  tasks_waiting = ap (λ (l : Lane). l.len) lane ∙ sym (puts.counts_task q.lanes q.owned (job.task - 1) job in' task)

  -- no refusal applies to the job
  free : false ≡ leb 1 (count_by (of_number job.number) (lane_jobs (get_or q.lanes (job.task - 1) d))) → ((get_or q.lanes (job.task - 1) d).len ≡ 4 → ⊥) → Welcome job (waiting_jobs q)
  free new few = record {
    known = known_task job.task low high;
    new = subst (λ n. n < 1) jobs_waiting (leb-false 1 _ (sym new));
    few = omega (arith, tasks_waiting, (get_or q.lanes (job.task - 1) d).within);
  }

pub returns-then-has : goal.returns-then-has
returns-then-has c =
    let q = c.args.self.now in
    let job = c.args.job in
    let d = c.index-self-i.result in
    let low = c.if-job-eq0.false in
    let high : job.task ≤ 32 = omega arith in
    let some : 1 ≤ count_by (is_job job.task job.number) (waiting_jobs q) = subst (λ n. 1 ≤ n) (jobs_waiting q job d low high) (leb-true 1 _ (sym (c.if-has.ensures ∙ found q job d low high))) in
    let e = answers.answers_waits job (waiting_jobs q) (known_task job.task low high) some in
    record { answer = sym e; list = sym (answers.put_refused job (waiting_jobs q) AlreadyWaits e) }

pub returns-then-lane-eq-MOST_OF_TASK : goal.returns-then-lane-eq-MOST_OF_TASK
returns-then-lane-eq-MOST_OF_TASK c =
    let q = c.args.self.now in
    let job = c.args.job in
    let d = c.index-self-i.result in
    let low = c.if-job-eq0.false in
    let high : job.task ≤ 32 = omega arith in
    let none : count_by (is_job job.task job.number) (waiting_jobs q) < 1 = subst (λ n. n < 1) (jobs_waiting q job d low high) (leb-false 1 _ (sym (c.if-has.ensures ∙ found q job d low high))) in
    let full : 4 ≤ count_by (of_task job.task) (waiting_jobs q) = omega (arith, tasks_waiting q job d low high, c.if-lane-eq-MOST_OF_TASK.true) in
    let e = answers.answers_four job (waiting_jobs q) (known_task job.task low high) none full in
    record { answer = sym e; list = sym (answers.put_refused job (waiting_jobs q) FourWait e) }

pub overflow_add-self : goal.overflow_add-self
overflow_add-self c = let q = c.args.self.now in omega (arith, lawful_most _ (lawful_lanes q), orderings.length_ordered before (flat_map lane_jobs q.lanes), q.counted)

pub invariant_of-self : goal.invariant_of-self
unfolding waiting_jobs
invariant_of-self c =
    let q = c.args.self.now in
    let ls = q.lanes in
    let job = c.args.job in
    let i = job.task - 1 in
    let d = c.index-self-i.result in
    let m = c.insert.new.self in
    let low = c.if-job-eq0.false in
    let high : job.task ≤ 32 = omega arith in
    let l = in' q job d low high in
    let t = task q job d low high in
    let same = lane q job d low high in
    let jobs_are : lane_jobs m ≡ placed before job (lane_jobs (get_or ls i empty)) = c.insert.ensures.jobs ∙ ap (λ (k : Lane). placed before job (lane_jobs k)) same in
    let len_is : m.len ≡ (get_or ls i empty).len + 1 = c.insert.ensures.len ∙ ap (λ (k : Lane). k.len + 1) same in
    let n = puts.put_length ls q.owned i m job l t jobs_are len_is in
    record { whole = length-set ls i m ∙ q.whole; marked = puts.put_marked ls q.owned i m job l t jobs_are len_is q.used c.with_bit-self.result q.marked (λ k. ap (bit k) c.with_bit-self.ensures ∙ bit_with q.used i (omega (arith, q.whole)) k); counted = ap (λ k. k + 1) q.counted ∙ sym n; owned = puts.put_owned ls q.owned i m job l t jobs_are len_is; once = puts.put_once ls q.owned i m job l t jobs_are len_is (free q job d low high (c.if-has.ensures ∙ found q job d low high) c.if-lane-eq-MOST_OF_TASK.false) (lawful_lanes q).once }

pub returns : goal.returns
unfolding waiting_jobs
returns c =
    let q = c.args.self.now in
    let ls = q.lanes in
    let job = c.args.job in
    let i = job.task - 1 in
    let d = c.index-self-i.result in
    let m = c.insert.new.self in
    let low = c.if-job-eq0.false in
    let high : job.task ≤ 32 = omega arith in
    let same = lane q job d low high in
    let e = answers.answers_ok job (waiting_jobs q) (free q job d low high (c.if-has.ensures ∙ found q job d low high) c.if-lane-eq-MOST_OF_TASK.false) in
    let jobs_are : lane_jobs m ≡ placed before job (lane_jobs (get_or ls i empty)) = c.insert.ensures.jobs ∙ ap (λ (k : Lane). placed before job (lane_jobs k)) same in
    let len_is : m.len ≡ (get_or ls i empty).len + 1 = c.insert.ensures.len ∙ ap (λ (k : Lane). k.len + 1) same in
    record { answer = sym e; list = puts.put_ordered ls q.owned i m job (in' q job d low high) (task q job d low high) jobs_are len_is ∙ sym (answers.put_placed job (waiting_jobs q) e) }
