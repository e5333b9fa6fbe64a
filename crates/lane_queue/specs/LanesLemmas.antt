-- Lanes of which each holds the jobs of one task.
use Rattle.std.specs.Prelude.{◌≡◌, ℕ, suc, ◌+◌, ◌-◌, ◌<◌, ◌≤◌, Bool, true, false, ◌&&◌, List, ◌++◌, length, get_or, take, drop, count_by, ◌==◌, ◌≢◌, slice_index_or, slice_set}
use Rattle.std.proofs.Common.{sym, ap, subst, ◌∙◌, ⊎_elim, arith}
use Rattle.std.specs.List.{flat_map, AllByRecursion}
use Rattle.std.proofs.lemmas.List.{length-take, length-take-le, get_or-take, get_or-drop, get_or-set_same, get_or-set_other}
use Rattle.std.proofs.ByRecursion.{All-weaker, All-from_get_or}
use Rattle.std.proofs.lemmas.Bool.{eqb-true, eq-eqb, ne_eqb, and_left, cases_eq, cases_Bool}
use Rattle.std.proofs.lemmas.Bool.Decides.{nat_tests}
use Rattle.ready.specs.declared.job.Job.{Job}
use Rattle.ready.specs.Order.{before}
use Rattle.ready.specs.Sorted.{ordered}
use Rattle.ready.specs.Waiting.{is_job, of_task, stray, Lawful}
use Rattle.ready.proofs.Counting.{count_by_append, count_by_none, all_pass, count_by_same}
use Rattle.ready.proofs.Lawful.{known_task, task_bounds, lawful_ordered}
use Rattle.lane_queue.specs.declared.lane.Lane.{Lane}
use Rattle.lane_queue.specs.declared.queue.LaneQueue.{LaneQueue}
use Rattle.lane_queue.specs.Lanes.{lane_jobs, of_number, empty}
use Rattle.lane_queue.specs.Joins.{joined_cut, all_joined}

pub length_lane : (l : Lane) → length (lane_jobs l) ≡ l.len
length_lane l = length-take-le l.len l.jobs (omega (arith, l.whole, l.within))

-- what holds at each place still does after lane i is changed, if it holds of what lane i then is
pub at_set : (P : ℕ → Lane → Type 0) (ls : List Lane) (i : ℕ) (m : Lane) → i < length ls → P i m → ((k : ℕ) → (k ≢ i) → P k (slice_index_or ls k empty)) → (k : ℕ) → P k (slice_index_or (slice_set ls i m) k empty)
at_set P ls i m l new old k = ⊎_elim
    (λ (e : k ≡ i). subst (λ j. P j (slice_index_or (slice_set ls i m) j empty)) (sym e) (subst (P i) (sym (get_or-set_same ls i m empty l)) new))
    (λ (u : k ≡ i → ⊥). subst (P k) (sym (get_or-set_other ls i k m empty u)) (old k u))
    (cases_eq k i)

another : (t u : ℕ) → stray t ≡ true → stray u ≡ false → u ≢ t
another t u h k e = let z : ◌≡◌ {A = ℕ} 0 1 = grind (arith, nat_tests) in omega arith

module _ (ls : List Lane) (owned : (i : ℕ) → count_by (of_task (i + 1)) (lane_jobs (slice_index_or ls i empty)) ≡ (get_or ls i empty).len) where
  pub lane_tasks : (i : ℕ) → AllByRecursion (λ j. j.task ≡ i + 1) (lane_jobs (slice_index_or ls i empty))
  lane_tasks i =
      let l = get_or ls i empty in
      All-weaker (λ j. of_task (i + 1) j ≡ true) (λ j. j.task ≡ i + 1) (λ j e. eqb-true j.task (i + 1) e) (lane_jobs l) (all_pass (of_task (i + 1)) (lane_jobs l) (owned i ∙ sym (length_lane l)))

  -- the lanes in front of lane i, and those behind it, hold no job of its task
  pub tasks_in_front : (i : ℕ) → AllByRecursion (λ j. j.task ≢ i + 1) (flat_map lane_jobs (take i ls))
  tasks_in_front i =
      let P : Job → Type 0 = λ j. j.task ≡ i + 1 → ⊥ in
      all_joined lane_jobs P (take i ls) (All-from_get_or (λ l. AllByRecursion P (lane_jobs l)) (take i ls) empty (λ k b.
      let c : k < i = omega (arith, length-take i ls) in
      subst (λ (l : Lane). AllByRecursion P (lane_jobs l)) (sym (get_or-take i ls k empty c)) (All-weaker (λ j. j.task ≡ k + 1) P (λ j e f. omega arith) (lane_jobs (slice_index_or ls k empty)) (lane_tasks k))))

  pub tasks_behind : (i : ℕ) → AllByRecursion (λ j. j.task ≢ i + 1) (flat_map lane_jobs (drop (suc i) ls))
  tasks_behind i =
      let P : Job → Type 0 = λ j. j.task ≡ i + 1 → ⊥ in
      all_joined lane_jobs P (drop (suc i) ls) (All-from_get_or (λ l. AllByRecursion P (lane_jobs l)) (drop (suc i) ls) empty (λ k b.
      subst (λ (l : Lane). AllByRecursion P (lane_jobs l)) (sym (get_or-drop (suc i) ls k empty)) (All-weaker (λ j. j.task ≡ suc i + k + 1) P (λ j e f. omega arith) (lane_jobs (slice_index_or ls (suc i + k) empty)) (lane_tasks (suc i + k)))))

  module _ (i : ℕ) (in' : i < length ls) where
    -- jobs of the task are counted in its lane alone
    counted_in_lane : (p : Job → Bool) → ((j : Job) → (j.task ≢ i + 1) → p j ≡ false) → count_by p (flat_map lane_jobs ls) ≡ count_by p (lane_jobs (slice_index_or ls i empty))
    counted_in_lane p no' =
        let l = get_or ls i empty in
        let us = flat_map lane_jobs (take i ls) in
        let vs = flat_map lane_jobs (drop (suc i) ls) in
        let a = count_by_none p us (All-weaker (λ j. j.task ≢ i + 1) (λ j. p j ≡ false) no' us (tasks_in_front i)) in
        let b = count_by_none p vs (All-weaker (λ j. j.task ≢ i + 1) (λ j. p j ≡ false) no' vs (tasks_behind i)) in
        ap (count_by p) (joined_cut lane_jobs ls i empty in') ∙ count_by_append p us (lane_jobs l ++ vs) ∙ omega (arith, a, b, count_by_append p (lane_jobs l) vs)

    pub jobs_of_task : count_by (of_task (i + 1)) (flat_map lane_jobs ls) ≡ (get_or ls i empty).len
    jobs_of_task = counted_in_lane (of_task (i + 1)) (λ j u. ne_eqb j.task (i + 1) u) ∙ owned i

    pub jobs_of_number : (n : ℕ) → count_by (is_job (i + 1) n) (flat_map lane_jobs ls) ≡ count_by (of_number n) (lane_jobs (slice_index_or ls i empty))
    jobs_of_number n =
        let js = lane_jobs (slice_index_or ls i empty) in
        counted_in_lane (is_job (i + 1) n) (λ j u. and_left (j.task == i + 1) (j.number == n) (ne_eqb j.task (i + 1) u))
        ∙ count_by_same (is_job (i + 1) n) (of_number n) js (All-weaker (λ j. j.task ≡ i + 1) (λ j. is_job (i + 1) n j ≡ of_number n j) (λ j e. ap (λ (b : Bool). b && j.number == n) (eq-eqb j.task (i + 1) e)) js (lane_tasks i))

  module _ (whole : length ls ≡ 32) where
    known : AllByRecursion (λ j. stray j.task ≡ false) (flat_map lane_jobs ls)
    known =
        let P : Job → Type 0 = λ j. stray j.task ≡ false in
        all_joined lane_jobs P ls (All-from_get_or (λ l. AllByRecursion P (lane_jobs l)) ls empty (λ k b. All-weaker (λ j. j.task ≡ k + 1) P (λ j e. known_task j.task (omega arith) (omega arith)) (lane_jobs (slice_index_or ls k empty)) (lane_tasks k)))

    four : (t : ℕ) → count_by (of_task t) (flat_map lane_jobs ls) ≤ 4
    four t = ⊎_elim
        (λ (e : stray t ≡ true). omega (arith, count_by_none (of_task t) (flat_map lane_jobs ls) (All-weaker (λ j. stray j.task ≡ false) (λ j. of_task t j ≡ false) (λ j f. ne_eqb j.task t (another t j.task e f)) (flat_map lane_jobs ls) known)))
        (λ (e : stray t ≡ false).
        let b = task_bounds t e in
        let s : t - 1 + 1 ≡ t = omega arith in
        subst (λ u. count_by (of_task u) (flat_map lane_jobs ls) ≤ 4) s (omega (arith, jobs_of_task (t - 1) (omega arith), (get_or ls (t - 1) empty).within)))
        (cases_Bool (stray t))

-- the jobs of all lanes in order are a lawful list
pub lawful_lanes : (q : LaneQueue) → Lawful (ordered before (flat_map lane_jobs q.lanes))
lawful_lanes q = lawful_ordered (flat_map lane_jobs q.lanes) (known q.lanes q.owned q.whole) q.once (four q.lanes q.owned q.whole)
