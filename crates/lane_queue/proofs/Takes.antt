-- The most urgent job, and its removal from its lane.
use Rattle.std.proofs.Common.{◌≡◌, ℕ, suc, ◌+◌, ◌<◌, ◌≤◌, Bool, true, false, cond, eqb, ltb, List, [], ◌∷◌, ◌++◌, length, get_or, take, drop, set, count_by, sym, refl, ap, ◌∙◌, subst, ⊎_elim, arith}
use Rattle.std.specs.List.{flat_map, AllByRecursion}
use Rattle.std.proofs.lemmas.List.{get_or-take, drop_more}
use Rattle.std.proofs.ByRecursion.{All-weaker, All-from_get_or}
use Rattle.std.proofs.lemmas.List.Sums.{count_by-le-length}
use Rattle.std.proofs.lemmas.Bool.{eq-eqb, ne_eqb, lt-ltb, le-ltb, cases_eq}
use Rattle.ready.specs.declared.job.Job.{Job}
use Rattle.ready.specs.Order.{before}
use Rattle.ready.specs.Sorted.{ordered, Sorted}
use Rattle.ready.specs.Waiting.{is_job, of_task}
use Rattle.ready.proofs.Counting.{count_by_cons}
use Rattle.ready.proofs.Orderings as orderings
use Rattle.ready.proofs.Urgency.{before_one_way, not_before_chain, tie_task}
use Rattle.lane_queue.specs.declared.lane.Lane.{Lane}
use Rattle.lane_queue.specs.Lanes.{lane_jobs, head, blank, empty, Idle, Leads}
use Rattle.lane_queue.specs.Words.{bit}
use Rattle.lane_queue.specs.Joins.{joined_cut, joined_set, joined_none, all_joined}
use Rattle.lane_queue.specs.LanesLemmas.{at_set, length_lane, lane_tasks, tasks_in_front}

-- a sorted list follows x where its first element does
follows : (x : Job) (xs : List Job) → Sorted before xs → (0 < length xs → before (get_or xs 0 blank) x ≡ false) → AllByRecursion (λ y. before y x ≡ false) xs
follows x [] s h = tt
follows x (y ∷ ys) s h = let e = h (omega arith) in (e, All-weaker (λ z. before z y ≡ false) (λ z. before z x ≡ false) (λ z k. not_before_chain z y x k e) ys s.0)

head_is : (l : Lane) → 0 < l.len → get_or (lane_jobs l) 0 blank ≡ head l
head_is l p = get_or-take l.len l.jobs 0 blank p

pub head_first : (l : Lane) → 0 < l.len → lane_jobs l ≡ head l ∷ drop 1 (lane_jobs l)
head_first l p = drop_more (lane_jobs l) 0 blank (omega (arith, length_lane l)) ∙ ap (λ y. y ∷ drop 1 (lane_jobs l)) (head_is l p)

lane_follows : (x : Job) (l : Lane) → (0 < l.len → before (head l) x ≡ false) → AllByRecursion (λ y. before y x ≡ false) (lane_jobs l)
lane_follows x l h = follows x (lane_jobs l) (orderings.sorted_from before before_one_way not_before_chain (lane_jobs l) l.sorted) (λ p. let q : 0 < l.len = omega (arith, length_lane l) in ap (λ y. before y x) (head_is l q) ∙ h q)

all_without : (P : Job → Type 0) (us : List Job) (x : Job) (ws : List Job) → AllByRecursion P (us ++ x ∷ ws) → AllByRecursion P (us ++ ws)
all_without P [] x ws h = h.1
all_without P (u ∷ us) x ws h = (h.0, all_without P us x ws h.1)

pub idle_ordered : (ls : List Lane) → Idle ls → ordered before (flat_map lane_jobs ls) ≡ []
idle_ordered ls h = ap (ordered before) (joined_none lane_jobs ls (All-from_get_or (λ l. lane_jobs l ≡ []) ls empty (λ k b. ap (λ n. take n (get_or ls k empty).jobs) (h k))))

module _ (ls : List Lane) (owned : (i : ℕ) → count_by (of_task (i + 1)) (lane_jobs (get_or ls i empty)) ≡ (get_or ls i empty).len)
    (i : ℕ) (leads : Leads ls i) where
  none_before : AllByRecursion (λ y. before y (head (get_or ls i empty)) ≡ false) (flat_map lane_jobs ls)
  none_before =
      let x = head (get_or ls i empty) in
      all_joined lane_jobs (λ y. before y x ≡ false) ls (All-from_get_or (λ l. AllByRecursion (λ y. before y x ≡ false) (lane_jobs l)) ls empty (λ k b. lane_follows x (get_or ls k empty) (leads.2 k)))

  module _ (x : Job) (rest : List Job) (jobs_are : lane_jobs (get_or ls i empty) ≡ x ∷ rest) where
    is_head : x ≡ head (get_or ls i empty)
    is_head = sym (ap (λ xs. get_or xs 0 blank) jobs_are) ∙ head_is (get_or ls i empty) leads.1

    cut : flat_map lane_jobs ls ≡ flat_map lane_jobs (take i ls) ++ (x ∷ rest ++ flat_map lane_jobs (drop (suc i) ls))
    cut = joined_cut lane_jobs ls i empty leads.0 ∙ ap (λ r. flat_map lane_jobs (take i ls) ++ (r ++ flat_map lane_jobs (drop (suc i) ls))) jobs_are

    -- the jobs in order are x and then the others in order
    pub leader_first : ordered before (flat_map lane_jobs ls) ≡ x ∷ ordered before (flat_map lane_jobs (take i ls) ++ (rest ++ flat_map lane_jobs (drop (suc i) ls)))
    leader_first =
        let us = flat_map lane_jobs (take i ls) in
        let vs = flat_map lane_jobs (drop (suc i) ls) in
        let task : x.task ≡ i + 1 = (subst (AllByRecursion (λ j. j.task ≡ i + 1)) jobs_are (lane_tasks ls owned i)).0 in
        let apart = All-weaker (λ j. j.task ≡ i + 1 → ⊥) (λ j. orderings.Apart before j x) (λ j u p q. absurd (u (tie_task j x p q ∙ task))) us (tasks_in_front ls owned i) in
        let P : Job → Type 0 = λ y. before y x ≡ false in
        let all' : AllByRecursion P (flat_map lane_jobs ls) = subst (λ z. AllByRecursion (λ y. before y z ≡ false) (flat_map lane_jobs ls)) (sym is_head) none_before in
        let others : AllByRecursion P (us ++ (rest ++ vs)) = all_without P us x (rest ++ vs) (subst (AllByRecursion P) cut all') in
        ap (ordered before) cut ∙ orderings.placed_behind before before_one_way not_before_chain x us (x ∷ rest ++ vs) (rest ++ vs) apart refl
        ∙ orderings.placed_foremost before x (ordered before (us ++ (rest ++ vs))) (orderings.all_ordered before P (us ++ (rest ++ vs)) others)

  -- x is taken out of lane i, which then is m
  module _ (m : Lane) (x : Job) (jobs_are : lane_jobs (get_or ls i empty) ≡ x ∷ lane_jobs m) where
    len_is : (get_or ls i empty).len ≡ m.len + 1
    len_is = omega (arith, length_lane (get_or ls i empty), length_lane m, ap length jobs_are)

    pub take_ordered : ordered before (flat_map lane_jobs ls) ≡ x ∷ ordered before (flat_map lane_jobs (set ls i m))
    take_ordered = leader_first x (lane_jobs m) jobs_are ∙ ap (λ r. x ∷ ordered before r) (sym (joined_set lane_jobs ls i m leads.0))

    take_counts : (p : Job → Bool) → count_by p (flat_map lane_jobs ls) ≡ cond (p x) 1 0 + count_by p (flat_map lane_jobs (set ls i m))
    take_counts p =
        sym (orderings.count_by_ordered before p (flat_map lane_jobs ls)) ∙ ap (count_by p) take_ordered ∙ count_by_cons p x (ordered before (flat_map lane_jobs (set ls i m)))
        ∙ ap (λ n. cond (p x) 1 0 + n) (orderings.count_by_ordered before p (flat_map lane_jobs (set ls i m)))

    pub take_length : length (flat_map lane_jobs ls) ≡ length (flat_map lane_jobs (set ls i m)) + 1
    take_length =
        let a = orderings.length_ordered before (flat_map lane_jobs (set ls i m)) in
        let b = orderings.length_ordered before (flat_map lane_jobs ls) in
        omega (arith, ap length take_ordered)

    at_most_one : (b : Bool) → ◌≤◌ (cond b 1 0) 1
    at_most_one true = omega arith
    at_most_one false = omega arith

    pub take_owned : (k : ℕ) → count_by (of_task (k + 1)) (lane_jobs (get_or (set ls i m) k empty)) ≡ (get_or (set ls i m) k empty).len
    take_owned =
        let p = of_task (i + 1) in
        let a : cond (p x) 1 0 + count_by p (lane_jobs m) ≡ (get_or ls i empty).len = sym (count_by_cons p x (lane_jobs m)) ∙ sym (ap (count_by p) jobs_are) ∙ owned i in
        at_set (λ k l. count_by (of_task (k + 1)) (lane_jobs l) ≡ l.len) ls i m leads.0
        (omega (arith, len_is, count_by-le-length p (lane_jobs m), length_lane m, at_most_one (p x))) (λ k u. owned k)

    pub take_once : ((t n : ℕ) → count_by (is_job t n) (flat_map lane_jobs ls) ≤ 1) → (t n : ℕ) → count_by (is_job t n) (flat_map lane_jobs (set ls i m)) ≤ 1
    take_once once t n = omega (arith, take_counts (is_job t n), once t n)

    -- the bit of the lane is kept where a job is left in it, and else cleared
    pub take_marked : (used word : ℕ) → ((k : ℕ) → bit k used ≡ cond (ltb 0 (get_or ls k empty).len) 1 0) → ((k : ℕ) → bit k word ≡ cond (eqb k i) (cond (ltb 0 m.len) 1 0) (bit k used)) → (k : ℕ) → bit k word ≡ cond (ltb 0 (get_or (set ls i m) k empty).len) 1 0
    take_marked used word marked w =
        at_set (λ k l. bit k word ≡ cond (ltb 0 l.len) 1 0) ls i m leads.0
        (w i ∙ ap (λ (b : Bool). cond b (cond (ltb 0 m.len) 1 0) (bit i used)) (eq-eqb i i refl))
        (λ k u. w k ∙ ap (λ (b : Bool). cond b (cond (ltb 0 m.len) 1 0) (bit k used)) (ne_eqb k i u) ∙ marked k)

    pub bit_stays : (used : ℕ) → ((k : ℕ) → bit k used ≡ cond (ltb 0 (get_or ls k empty).len) 1 0) → 0 < m.len → (k : ℕ) → bit k used ≡ cond (eqb k i) (cond (ltb 0 m.len) 1 0) (bit k used)
    bit_stays used marked p k = ⊎_elim
        (λ (e : k ≡ i). marked k ∙ ap (λ (b : Bool). cond {A = ℕ} b 1 0) (ap (λ j. ltb 0 (get_or ls j empty).len) e ∙ lt-ltb 0 (get_or ls i empty).len leads.1 ∙ sym (lt-ltb 0 m.len p)) ∙ sym (ap (λ (b : Bool). cond b (cond (ltb 0 m.len) 1 0) (bit k used)) (eq-eqb k i e)))
        (λ (u : k ≡ i → ⊥). sym (ap (λ (b : Bool). cond b (cond (ltb 0 m.len) 1 0) (bit k used)) (ne_eqb k i u)))
        (cases_eq k i)

    pub bit_goes : (used word : ℕ) → m.len ≡ 0 → ((k : ℕ) → bit k word ≡ cond (eqb k i) 0 (bit k used)) → (k : ℕ) → bit k word ≡ cond (eqb k i) (cond (ltb 0 m.len) 1 0) (bit k used)
    bit_goes used word z w k = w k ∙ ap (λ n. cond (eqb k i) n (bit k used)) (sym (ap (λ (b : Bool). cond {A = ℕ} b 1 0) (le-ltb 0 m.len (omega arith))))
