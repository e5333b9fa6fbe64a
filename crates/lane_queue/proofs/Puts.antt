-- A job is put into its lane.
use Rattle.std.proofs.Common.{◌≡◌, ℕ, suc, ◌+◌, ◌<◌, Bool, cond, eqb, ltb, List, ◌++◌, length, get_or, take, drop, set, count_by, sym, refl, ap, ◌∙◌, arith}
use Rattle.std.specs.List.{flat_map}
use Rattle.std.proofs.ByRecursion.{All-weaker}
use Rattle.std.proofs.lemmas.Bool.{eq-eqb, ne_eqb, lt-ltb}
use Rattle.ready.specs.declared.job.Job.{Job}
use Rattle.ready.specs.Order.{before}
use Rattle.ready.specs.Sorted.{placed, ordered}
use Rattle.ready.specs.Waiting.{is_job, of_task}
use Rattle.ready.proofs.Orderings as orderings
use Rattle.ready.proofs.Urgency.{before_one_way, not_before_chain, tie_task}
use Rattle.ready.proofs.Lawful.{Welcome, Once, once_more}
use Rattle.lane_queue.specs.declared.lane.Lane.{Lane}
use Rattle.lane_queue.specs.Lanes.{lane_jobs, of_number, empty}
use Rattle.lane_queue.specs.Words.{bit}
use Rattle.lane_queue.specs.Joins.{joined_cut, joined_set}
use Rattle.lane_queue.specs.LanesLemmas.{at_set, tasks_in_front, jobs_of_task, jobs_of_number}

-- the jobs of x's task wait in its lane
module _ (ls : List Lane) (owned : (i : ℕ) → count_by (of_task (i + 1)) (lane_jobs (get_or ls i empty)) ≡ (get_or ls i empty).len)
    (i : ℕ) (x : Job) (in' : i < length ls) (task : x.task ≡ i + 1) where
  pub counts_number : count_by (is_job x.task x.number) (ordered before (flat_map lane_jobs ls)) ≡ count_by (of_number x.number) (lane_jobs (get_or ls i empty))
  counts_number =
      orderings.count_by_ordered before (is_job x.task x.number) (flat_map lane_jobs ls) ∙ ap (λ t. count_by (is_job t x.number) (flat_map lane_jobs ls)) task
      ∙ jobs_of_number ls owned i in' x.number

  pub counts_task : count_by (of_task x.task) (ordered before (flat_map lane_jobs ls)) ≡ (get_or ls i empty).len
  counts_task = orderings.count_by_ordered before (of_task x.task) (flat_map lane_jobs ls) ∙ ap (λ t. count_by (of_task t) (flat_map lane_jobs ls)) task ∙ jobs_of_task ls owned i in'

-- x is put into lane i, which then is m
module _ (ls : List Lane) (owned : (i : ℕ) → count_by (of_task (i + 1)) (lane_jobs (get_or ls i empty)) ≡ (get_or ls i empty).len)
    (i : ℕ) (m : Lane) (x : Job) (in' : i < length ls) (task : x.task ≡ i + 1)
    (jobs_are : lane_jobs m ≡ placed before x (lane_jobs (get_or ls i empty))) (len_is : m.len ≡ (get_or ls i empty).len + 1) where
  pub put_ordered : ordered before (flat_map lane_jobs (set ls i m)) ≡ placed before x (ordered before (flat_map lane_jobs ls))
  put_ordered =
      let js = lane_jobs (get_or ls i empty) in
      let us = flat_map lane_jobs (take i ls) in
      let vs = flat_map lane_jobs (drop (suc i) ls) in
      let apart = All-weaker (λ j. j.task ≡ i + 1 → ⊥) (λ j. orderings.Apart before j x) (λ j u p q. absurd (u (tie_task j x p q ∙ task))) us (tasks_in_front ls owned i) in
      ap (ordered before) (joined_set lane_jobs ls i m in' ∙ ap (λ r. us ++ (r ++ vs)) jobs_are)
      ∙ orderings.placed_behind before before_one_way not_before_chain x us (placed before x js ++ vs) (js ++ vs) apart (orderings.placed_in_front before before_one_way not_before_chain x js vs)
      ∙ ap (λ r. placed before x (ordered before r)) (sym (joined_cut lane_jobs ls i empty in'))

  put_counts : (p : Job → Bool) → count_by p (flat_map lane_jobs (set ls i m)) ≡ cond (p x) 1 0 + count_by p (ordered before (flat_map lane_jobs ls))
  put_counts p = sym (orderings.count_by_ordered before p (flat_map lane_jobs (set ls i m))) ∙ ap (count_by p) put_ordered ∙ orderings.count_by_placed before p x (ordered before (flat_map lane_jobs ls))

  pub put_length : length (flat_map lane_jobs (set ls i m)) ≡ length (flat_map lane_jobs ls) + 1
  put_length =
      let a = orderings.length_ordered before (flat_map lane_jobs (set ls i m)) in
      let b = orderings.length_placed before x (ordered before (flat_map lane_jobs ls)) in
      let c = orderings.length_ordered before (flat_map lane_jobs ls) in
      omega (arith, ap length put_ordered)

  pub put_owned : (k : ℕ) → count_by (of_task (k + 1)) (lane_jobs (get_or (set ls i m) k empty)) ≡ (get_or (set ls i m) k empty).len
  put_owned =
      let p = of_task (i + 1) in
      let one : ◌≡◌ {A = ℕ} (cond (p x) 1 0) 1 = ap (λ (b : Bool). cond {A = ℕ} b 1 0) (eq-eqb x.task (i + 1) task) in
      at_set (λ k l. count_by (of_task (k + 1)) (lane_jobs l) ≡ l.len) ls i m in'
      (ap (count_by p) jobs_are ∙ orderings.count_by_placed before p x (lane_jobs (get_or ls i empty)) ∙ omega (arith, owned i)) (λ k u. owned k)

  pub put_once : Welcome x (ordered before (flat_map lane_jobs ls)) → Once (ordered before (flat_map lane_jobs ls)) → Once (flat_map lane_jobs (set ls i m))
  put_once w once = once_more x (ordered before (flat_map lane_jobs ls)) (flat_map lane_jobs (set ls i m)) put_counts w once

  pub put_marked : (used word : ℕ) → ((k : ℕ) → bit k used ≡ cond (ltb 0 (get_or ls k empty).len) 1 0) → ((k : ℕ) → bit k word ≡ cond (eqb k i) 1 (bit k used)) → (k : ℕ) → bit k word ≡ cond (ltb 0 (get_or (set ls i m) k empty).len) 1 0
  put_marked used word marked w =
      at_set (λ k l. bit k word ≡ cond (ltb 0 l.len) 1 0) ls i m in'
      (w i ∙ ap (λ (b : Bool). cond b 1 (bit i used)) (eq-eqb i i refl) ∙ sym (ap (λ (b : Bool). cond {A = ℕ} b 1 0) (lt-ltb 0 m.len (omega arith))))
      (λ k u. w k ∙ ap (λ (b : Bool). cond b 1 (bit k used)) (ne_eqb k i u) ∙ marked k)
