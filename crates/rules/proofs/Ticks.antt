-- A tick keeps what every call keeps, puts back without a refusal, and stops the bench where a job is late.
use Rattle.std.proofs.Common.{◌≡◌, ℕ, ◌+◌, ◌-◌, ◌<◌, ◌≤◌, Bool, true, false, cond, eqb, ltb, leb, ◌⊎◌, List, [], ◌∷◌, length, Some, None, Option, Ok, count_by, sym, refl, ap, ◌∙◌, subst, inl, inr, ⊎_elim, arith}
use Rattle.std.specs.List.{AllByRecursion}
use Rattle.std.proofs.ByRecursion.{All-weaker}
use Rattle.std.proofs.lemmas.Bool.{cases_lt, cases_Bool, eqb-false, ltb-true, leb-false, eq-eqb, ne_eqb, and_from, both_ways}
use Rattle.sheet.specs.declared.row.Row.{Row}
use Rattle.verdict.specs.Test.{row_at}
use Rattle.ready.specs.declared.job.Job.{Job}
use Rattle.ready.specs.Order.{before}
use Rattle.ready.specs.Sorted.{Sorted}
use Rattle.ready.specs.Waiting.{of_task, is_job, put_answer}
use Rattle.ready.proofs.Urgency.{before_one_way, before_self, least_key}
use Rattle.ready.proofs.Counting.{count_by_cons, count_by_yes, none_passes}
use Rattle.ready.proofs.Lawful.{is_that_job, that_job, known_task}
use Rattle.ready.proofs.Puts.{answers_ok, count_by_put, all_put, sorted_put}
use Rattle.duty_log.specs.declared.line.Event.{Event}
use Rattle.duty_log.specs.declared.line.Event.TheVariants.{PutBack, Held, Done, Idle}
use Rattle.rules.specs.declared.counts.TaskCounts.{TaskCounts}
use Rattle.rules.specs.declared.hand.Held.{Held as HeldJob}
use Rattle.rules.specs.State.{State, task_at, pending_of, pending}
use Rattle.rules.specs.Release.{next_release}
use Rattle.rules.specs.declared.letter.Letter.{Letter}
use Rattle.rules.specs.declared.letter.Letter.TheVariants.{Run, Hold, Finish}
use Rattle.rules.specs.Tick.{Turn, nobody, runs, turn_of, one_if, begins, interrupts, worked, event_of, event_at, hand_after, waiting_after, one_done, worked_state, idle_state, after_turn, urgent_of, most_urgent, late_at, checked}
use Rattle.rules.specs.Step.{last_clock}
use Rattle.rules.specs.Deadlines.{releases_before}
use Rattle.rules.specs.Accounts.{NothingLost, InOrder, Proper, Holds}
use Rattle.rules.proofs.Tasks.{Raised, length_tick, raised_tick}
use Rattle.rules.proofs.Times.{period_later}
use Rattle.rules.proofs.Kept.{all_both, Ruled, seen, seen_below, seen_above, NextInHand, EachProper, Kept, Sound, proper_in, found}

-- Who runs.

-- the job that runs and those that wait besides are the pending ones
pub turn_pending : (h : Option HeldJob) (w : List Job) (j : Job) (holds : ℕ) (js : List Job) → turn_of h w ≡ runs j holds js → pending_of h w ≡ j ∷ js
turn_pending (Some held) w j holds js e = cc
turn_pending None [] j holds js e = let z : ◌≡◌ {A = ℕ} 0 1 = cc in absurd (omega arith)
turn_pending None (k ∷ ks) j holds js e = cc

pub nobody_pending : (h : Option HeldJob) (w : List Job) → turn_of h w ≡ nobody → pending_of h w ≡ []
nobody_pending (Some held) w e = let z : ◌≡◌ {A = ℕ} 0 1 = cc in absurd (omega arith)
nobody_pending None [] e = refl
nobody_pending None (k ∷ ks) e = let z : ◌≡◌ {A = ℕ} 0 1 = cc in absurd (omega arith)

pub turn_sorted : (h : Option HeldJob) (w : List Job) (j : Job) (holds : ℕ) (js : List Job) → turn_of h w ≡ runs j holds js → Sorted before w → Sorted before js
turn_sorted (Some held) w j holds js e s = let z : w ≡ js = cc in subst (Sorted before) z s
turn_sorted None [] j holds js e s = let z : ◌≡◌ {A = ℕ} 0 1 = cc in absurd (omega arith)
turn_sorted None (k ∷ ks) j holds js e s = let z : ks ≡ js = cc in subst (Sorted before) z s.1

-- a job of a sorted list before which none comes is the first of its task that is not done
first_is_next : (rows : List Row) (ok : Ruled rows) (s : State) → EachProper rows s → InOrder rows s → (j : Job)
    → Proper rows s j → AllByRecursion (λ k. before k j ≡ false) (pending s) → j.number ≡ (task_at j.task s.tasks).done + 1
first_is_next rows ok s proper order j p least =
    ⊎_elim
    (λ lt. absurd (
    let f = found rows s proper order (λ k. before k j ≡ false) least j.task ((task_at j.task s.tasks).done + 1) p.low p.high
    (omega arith) (omega (arith, p.out)) in
    let e : (task_at j.task s.tasks).done + 1 - 1 ≡ (task_at j.task s.tasks).done = omega arith in
    let k : f.job.key ≡ next_release (row_at j.task rows) (task_at j.task s.tasks).done + (row_at j.task rows).deadline
    = subst (λ (n : ℕ). f.job.key ≡ next_release (row_at j.task rows) n + (row_at j.task rows).deadline) e f.key in
    let a = period_later (row_at j.task rows) (task_at j.task s.tasks).done (j.number - 1) (omega arith) in
    let pos : 0 < (row_at j.task rows).period = (ok.ranges j.task).some_period in
    omega (arith, p.key, least_key j f.job f.holds)))
    (λ ge. omega (arith, p.undone))
    (cases_lt ((task_at j.task s.tasks).done + 1) j.number)

turn_next' : (rows : List Row) (ok : Ruled rows) (s : State) → EachProper rows s → InOrder rows s → (h : Option HeldJob) (w : List Job)
    → pending s ≡ pending_of h w → Sorted before w → NextInHand s.tasks h
    → (j : Job) (holds : ℕ) (js : List Job) → turn_of h w ≡ runs j holds js → j.number ≡ (task_at j.task s.tasks).done + 1
turn_next' rows ok s proper order (Some held) w x sorted next j holds js e =
    let z : held.job ≡ j = cc in subst (λ (y : Job). y.number ≡ (task_at y.task s.tasks).done + 1) z next
turn_next' rows ok s proper order None [] x sorted next j holds js e = let z : ◌≡◌ {A = ℕ} 0 1 = cc in absurd (omega arith)
turn_next' rows ok s proper order None (k ∷ ks) x sorted next j holds js e =
    let z : k ≡ j = cc in
    subst (λ (y : Job). y.number ≡ (task_at y.task s.tasks).done + 1) z
    (first_is_next rows ok s proper order k (subst (AllByRecursion (Proper rows s)) x proper).0
    (subst (AllByRecursion (λ y. before y k ≡ false)) (sym x) (before_self k, sorted.0)))

-- the job that runs is the first of its task that is not done
pub turn_next : (rows : List Row) → Ruled rows → (n : ℕ) (s : State) → Kept rows n s
    → (j : Job) (holds : ℕ) (js : List Job) → turn_of s.hand s.waiting ≡ runs j holds js → j.number ≡ (task_at j.task s.tasks).done + 1
turn_next rows ok n s kept = turn_next' rows ok s kept.proper kept.order s.hand s.waiting refl kept.sorted kept.next

-- What becomes of it.

-- what an event tells of the units left, the holds in a row and the most that the row allows
abbrev pub Tells : Event → (left holds most : ℕ) → Type 0
Tells Done left holds most = Unit {0}
Tells PutBack left holds most = 1 ≤ left
Tells Held left holds most = (1 ≤ left) × (holds < most)
Tells Idle left holds most = ⊥

pub event_tells : (l : Letter) (left holds most : ℕ) → Tells (event_of l left holds most) left holds most
event_tells Finish left holds most = tt
event_tells Run left holds most = go (eqb left 0) refl
  where
    go : (b : Bool) → eqb left 0 ≡ b → Tells (cond b Done PutBack) left holds most
    go true e = tt
    go false e = omega (arith, eqb-false left 0 e)
event_tells Hold left holds most = go (eqb left 0) (ltb holds most) refl refl
  where
    go : (b c : Bool) → eqb left 0 ≡ b → ltb holds most ≡ c → Tells (cond b Done (cond c Held PutBack)) left holds most
    go true c e f = tt
    go false true e f = (omega (arith, eqb-false left 0 e), ltb-true holds most f)
    go false false e f = omega (arith, eqb-false left 0 e)

pub one_if_le : (b : Bool) → one_if b ≤ 1
one_if_le true = omega arith
one_if_le false = omega arith

pub one_done_le : (e : Event) → one_done e ≤ 1
one_done_le Done = omega arith
one_done_le PutBack = omega arith
one_done_le Held = omega arith
one_done_le Idle = omega arith

-- the pending jobs after the job has run
abbrev pub pending_after : Event → Job → ℕ → List Job → List Job
pending_after e j holds js = pending_of (hand_after e j holds) (waiting_after e j js)

pub cond_same : (b : Bool) → ◌≡◌ {A = ℕ} (cond b 0 0) 0
cond_same true = refl
cond_same false = refl

pub count_after_run : (p : Job → Bool) (e : Event) (j : Job) (left holds most : ℕ) (js : List Job) → Tells e left holds most
    → p (worked j) ≡ p j → put_answer (worked j) js ≡ Ok tt
    → count_by p (pending_after e (worked j) holds js) + cond (p j) (one_done e) 0 ≡ count_by p (j ∷ js)
count_after_run p Done j left holds most js t same fits = omega (arith, count_by_cons p j js)
count_after_run p PutBack j left holds most js t same fits =
    let a : ◌≡◌ {A = ℕ} (cond (p (worked j)) 1 0) (cond (p j) 1 0) = ap (λ (b : Bool). cond b 1 0) same in
    omega (arith, count_by_put (worked j) js p fits, count_by_cons p j js, cond_same (p j))
count_after_run p Held j left holds most js t same fits =
    let a : ◌≡◌ {A = ℕ} (cond (p (worked j)) 1 0) (cond (p j) 1 0) = ap (λ (b : Bool). cond b 1 0) same in
    omega (arith, count_by_cons p (worked j) js, count_by_cons p j js, cond_same (p j))
count_after_run p Idle j left holds most js t same fits = absurd t

pub all_after_run : (P : Job → Type 0) (e : Event) (j : Job) (left holds most : ℕ) (js : List Job) → Tells e left holds most
    → (1 ≤ left → one_done e ≡ 0 → P j) → AllByRecursion P js → AllByRecursion P (pending_after e j holds js)
all_after_run P Done j left holds most js t p a = a
all_after_run P PutBack j left holds most js t p a = all_put j js P (p t refl) a
all_after_run P Held j left holds most js t p a = (p t.0 refl, a)
all_after_run P Idle j left holds most js t p a = absurd t

pub sorted_after_run : (e : Event) (j : Job) (js : List Job) → Sorted before js → Sorted before (waiting_after e j js)
sorted_after_run Done j js s = s
sorted_after_run PutBack j js s = sorted_put j js s
sorted_after_run Held j js s = s
sorted_after_run Idle j js s = s

next_after_run : (tasks : List TaskCounts) (e : Event) (j : Job) (holds : ℕ) → (one_done e ≡ 0 → j.number ≡ (task_at j.task tasks).done + 1)
    → NextInHand tasks (hand_after e j holds)
next_after_run tasks Done j holds h = tt
next_after_run tasks PutBack j holds h = tt
next_after_run tasks Held j holds h = h refl
next_after_run tasks Idle j holds h = tt

pub holds_after_run : (rows : List Row) (e : Event) (j : Job) (left holds : ℕ) → Tells e left holds (row_at j.task rows).hold
    → Holds rows (hand_after e (worked j) holds)
holds_after_run rows Done j left holds t = tt
holds_after_run rows PutBack j left holds t = tt
holds_after_run rows Held j left holds t = (omega arith, omega (arith, t.1))
holds_after_run rows Idle j left holds t = tt

-- A tick in which a job runs, once every task has released what is due.
module _ (rows : List Row) (ok : Ruled rows) (s : State) (kept : Kept rows (length rows) s) where
  times_then : (l : ℕ) → 1 ≤ l → l ≤ length rows → (task_at l s.tasks).released ≡ releases_before (row_at l rows) (seen 0 l (s.clock + 1))
  times_then l low high =
      kept.times l low high ∙ ap (releases_before (row_at l rows)) (seen_below (length rows) l s.clock high ∙ sym (seen_above 0 l (s.clock + 1) low))

  module _ (j : Job) (holds : ℕ) (js : List Job) (turn : turn_of s.hand s.waiting ≡ runs j holds js) where
    split : pending s ≡ j ∷ js
    split = turn_pending s.hand s.waiting j holds js turn

    all_proper : AllByRecursion (Proper rows s) (j ∷ js)
    all_proper = subst (AllByRecursion (Proper rows s)) split kept.proper

    is_next : j.number ≡ (task_at j.task s.tasks).done + 1
    is_next = turn_next rows ok (length rows) s kept j holds js turn

    count_of : (l : ℕ) → 1 ≤ l → l ≤ length rows → (task_at l s.tasks).released ≡ (task_at l s.tasks).done + count_by (of_task l) (j ∷ js)
    count_of l low high =
        subst (λ (w : List Job). (task_at l s.tasks).released ≡ (task_at l s.tasks).done + count_by (of_task l) w) split (kept.lost l low high)

    count_is : (l m : ℕ) → 1 ≤ l → l ≤ length rows → (task_at l s.tasks).done < m → m ≤ (task_at l s.tasks).released → count_by (is_job l m) (j ∷ js) ≡ 1
    count_is l m low high undone out = subst (λ (w : List Job). count_by (is_job l m) w ≡ 1) split (kept.order l m low high undone out)

    -- the job that runs does not wait
    alone : count_by (is_job j.task j.number) js ≡ 0
    alone =
        let p : Proper rows s j = all_proper.0 in
        omega (arith, count_is j.task j.number p.low p.high p.undone p.out, count_by_yes (is_job j.task j.number) j js (is_that_job j.task j.number j refl refl))

    pub put_back : put_answer (worked j) js ≡ Ok tt
    put_back =
        let p : Proper rows s j = all_proper.0 in
        answers_ok (worked j) js (record {
          known = known_task j.task (omega (arith, p.low)) (omega (arith, p.high, ok.few));
          new = omega (arith, alone);
          few = omega (arith, count_of j.task p.low p.high, count_by_yes (of_task j.task) j js (eq-eqb j.task j.task refl), kept.four j.task p.low p.high);
        })

    module _ (below : s.clock < last_clock) (e : Event) (tells : Tells e (j.left - 1) holds (row_at j.task rows).hold) where
      abbrev after : State
      after = worked_state rows e j holds js s

      look : (l : ℕ) → 1 ≤ l → Raised l j.task 0 (one_done e) 1 (task_at l s.tasks) (task_at l after.tasks)
      look l low = raised_tick e j.task s.tasks l all_proper.0.low (omega (arith, kept.size, all_proper.0.high)) low

      times_after : (l : ℕ) → 1 ≤ l → l ≤ length rows → (task_at l after.tasks).released ≡ releases_before (row_at l rows) (seen 0 l (s.clock + 1))
      times_after l low high = go (look l low)
        where
          go : Raised l j.task 0 (one_done e) 1 (task_at l s.tasks) (task_at l after.tasks)
              → (task_at l after.tasks).released ≡ releases_before (row_at l rows) (seen 0 l (s.clock + 1))
          go (inl x) = omega (arith, x.1, times_then l low high)
          go (inr x) = omega (arith, x.1, times_then l low high)

      four_after : (l : ℕ) → 1 ≤ l → l ≤ length rows → (task_at l after.tasks).released ≤ (task_at l after.tasks).done + 4
      four_after l low high = go (look l low)
        where
          go : Raised l j.task 0 (one_done e) 1 (task_at l s.tasks) (task_at l after.tasks) → (task_at l after.tasks).released ≤ (task_at l after.tasks).done + 4
          go (inl x) = omega (arith, x.1, x.2, kept.four l low high)
          go (inr x) = omega (arith, x.1, x.2, kept.four l low high)

      given_after : (l : ℕ) → 1 ≤ l → l ≤ length rows → (task_at l after.tasks).given ≤ s.clock + 1
      given_after l low high = go (look l low)
        where
          go : Raised l j.task 0 (one_done e) 1 (task_at l s.tasks) (task_at l after.tasks) → (task_at l after.tasks).given ≤ s.clock + 1
          go (inl x) = omega (arith, x.3, kept.given l low high)
          go (inr x) = omega (arith, x.3, kept.given l low high)

      lost_after : NothingLost rows after
      lost_after l low high = go (look l low)
        where
          count : (b : Bool) → of_task l j ≡ b → count_by (of_task l) (pending after) + cond b (one_done e) 0 ≡ count_by (of_task l) (j ∷ js)
          count b x =
              subst (λ (y : Bool). count_by (of_task l) (pending after) + cond y (one_done e) 0 ≡ count_by (of_task l) (j ∷ js)) x
              (count_after_run (of_task l) e j (j.left - 1) holds (row_at j.task rows).hold js tells refl put_back)

          go : Raised l j.task 0 (one_done e) 1 (task_at l s.tasks) (task_at l after.tasks)
              → (task_at l after.tasks).released ≡ (task_at l after.tasks).done + count_by (of_task l) (pending after)
          go (inl x) = let c = count true (eq-eqb j.task l (sym x.0)) in omega (arith, x.1, x.2, count_of l low high)
          go (inr x) = let c = count false (ne_eqb j.task l (λ y. x.0 (sym y))) in omega (arith, x.1, x.2, count_of l low high)

      order_after : InOrder rows after
      order_after l m low high undone out = go (look l low) (cases_Bool (is_job l m j))
        where
          count : (b : Bool) → is_job l m j ≡ b → count_by (is_job l m) (pending after) + cond b (one_done e) 0 ≡ count_by (is_job l m) (j ∷ js)
          count b x =
              subst (λ (y : Bool). count_by (is_job l m) (pending after) + cond y (one_done e) 0 ≡ count_by (is_job l m) (j ∷ js)) x
              (count_after_run (is_job l m) e j (j.left - 1) holds (row_at j.task rows).hold js tells refl put_back)

          go : Raised l j.task 0 (one_done e) 1 (task_at l s.tasks) (task_at l after.tasks) → (is_job l m j ≡ true) ⊎ (is_job l m j ≡ false)
              → count_by (is_job l m) (pending after) ≡ 1
          go (inl x) (inl y) =
              let c = count true y in
              let z = that_job l m j y in
              let d : (task_at l s.tasks).done ≡ (task_at j.task s.tasks).done = ap (λ (n : ℕ). (task_at n s.tasks).done) x.0 in
              omega (arith, x.1, x.2, z.1, is_next, undone, count_is l m low high (omega (arith, x.2)) (omega (arith, x.1)))
          go (inl x) (inr y) =
              let c = count false y in omega (arith, count_is l m low high (omega (arith, x.2)) (omega (arith, x.1)))
          go (inr x) (inl y) = absurd (x.0 (sym (that_job l m j y).0))
          go (inr x) (inr y) =
              let c = count false y in omega (arith, count_is l m low high (omega (arith, x.2)) (omega (arith, x.1)))

      proper_other : (k : Job) → Proper rows s k → is_job j.task j.number k ≡ false → Proper rows after k
      proper_other k p other = go (look k.task p.low)
        where
          go : Raised k.task j.task 0 (one_done e) 1 (task_at k.task s.tasks) (task_at k.task after.tasks) → Proper rows after k
          go (inl x) =
              let ne : k.number ≡ j.number → ⊥
              = λ y. both_ways (is_job j.task j.number k) other
              (and_from (eqb k.task j.task) (eqb k.number j.number) (eq-eqb k.task j.task x.0) (eq-eqb k.number j.number y)) in
              let d : (task_at k.task s.tasks).done ≡ (task_at j.task s.tasks).done = ap (λ (n : ℕ). (task_at n s.tasks).done) x.0 in
              let later : j.number < k.number
              = ⊎_elim (λ lt. lt) (λ ge. absurd (ne (omega (arith, p.undone, is_next)))) (cases_lt j.number k.number) in
              proper_in rows s after k p (omega (arith, x.2, is_next, one_done_le e)) (omega (arith, x.1, p.out))
          go (inr x) = proper_in rows s after k p (omega (arith, x.2, p.undone)) (omega (arith, x.1, p.out))

      -- what the tick leaves of the counts of the task that ran
      done_here : (task_at j.task after.tasks).done ≡ (task_at j.task s.tasks).done + one_done e
      done_here = go (look j.task all_proper.0.low)
        where
          go : Raised j.task j.task 0 (one_done e) 1 (task_at j.task s.tasks) (task_at j.task after.tasks)
              → (task_at j.task after.tasks).done ≡ (task_at j.task s.tasks).done + one_done e
          go (inl x) = x.2
          go (inr x) = absurd (x.0 refl)

      released_here : (task_at j.task after.tasks).released ≡ (task_at j.task s.tasks).released
      released_here = go (look j.task all_proper.0.low)
        where
          go : Raised j.task j.task 0 (one_done e) 1 (task_at j.task s.tasks) (task_at j.task after.tasks)
              → (task_at j.task after.tasks).released ≡ (task_at j.task s.tasks).released
          go (inl x) = omega (arith, x.1)
          go (inr x) = x.1

      proper_worked : 1 ≤ j.left - 1 → one_done e ≡ 0 → Proper rows after (worked j)
      proper_worked some none =
          let p : Proper rows s j = all_proper.0 in
          record {
            low = p.low;
            high = p.high;
            undone = omega (arith, done_here, p.undone);
            out = omega (arith, released_here, p.out);
            key = p.key;
            some = some;
            most = omega (arith, p.most);
          }

      pub kept_worked : Kept rows 0 after
      kept_worked = record {
        size = length_tick e j.task s.tasks ∙ kept.size;
        clock = omega arith;
        times = times_after;
        four = four_after;
        given = given_after;
        lost = lost_after;
        order = order_after;
        proper = all_after_run (Proper rows after) e (worked j) (j.left - 1) holds (row_at j.task rows).hold js tells proper_worked
            (all_both (Proper rows s) (λ k. is_job j.task j.number k ≡ false) (Proper rows after) proper_other js all_proper.1
            (none_passes (is_job j.task j.number) js alone));
        sorted = sorted_after_run e (worked j) js (turn_sorted s.hand s.waiting j holds js turn kept.sorted);
        next = next_after_run after.tasks e (worked j) holds (λ z. omega (arith, is_next, done_here));
        holds = holds_after_run rows e j (j.left - 1) holds tells;
        idle = omega (arith, kept.idle);
        begun = omega (arith, kept.begun, one_if_le (begins (row_at j.task rows) j));
        interruptions = omega (arith, kept.interruptions, one_if_le (interrupts s.previous j));
      }

  -- a tick in which nothing is pending
  pub kept_idle : s.clock < last_clock → turn_of s.hand s.waiting ≡ nobody → Kept rows 0 (idle_state s)
  kept_idle below turn =
      let none : pending s ≡ [] = nobody_pending s.hand s.waiting turn in
      record {
        size = kept.size;
        clock = omega arith;
        times = times_then;
        four = kept.four;
        given = λ l low high. omega (arith, kept.given l low high);
        lost = λ l low high.
            subst (λ (w : List Job). (task_at l s.tasks).released ≡ (task_at l s.tasks).done + count_by (of_task l) w) none (kept.lost l low high);
        order = λ l m low high undone out. subst (λ (w : List Job). count_by (is_job l m) w ≡ 1) none (kept.order l m low high undone out);
        proper = tt;
        sorted = tt;
        next = tt;
        holds = tt;
        idle = omega (arith, kept.idle);
        begun = omega (arith, kept.begun);
        interruptions = omega (arith, kept.interruptions);
      }

  pub kept_turn : s.clock < last_clock → (l : Letter) → Kept rows 0 (after_turn rows l (turn_of s.hand s.waiting) s)
  kept_turn below l = go (turn_of s.hand s.waiting) refl
    where
      go : (t : Turn) → turn_of s.hand s.waiting ≡ t → Kept rows 0 (after_turn rows l t s)
      go nobody e = kept_idle below e
      go (runs j holds js) e =
          kept_worked j holds js e below (event_at rows l j holds) (event_tells l (j.left - 1) holds (row_at j.task rows).hold)

-- The check for a miss.

kept_checked : (rows : List Row) (s : State) → Kept rows 0 s → Kept rows 0 (checked s)
kept_checked rows s kept = record {
  size = kept.size;
  clock = kept.clock;
  times = kept.times;
  four = kept.four;
  given = kept.given;
  lost = kept.lost;
  order = kept.order;
  proper = All-weaker (Proper rows s) (Proper rows (checked s)) (λ j p. proper_in rows s (checked s) j p p.undone p.out) (pending s) kept.proper;
  sorted = kept.sorted;
  next = kept.next;
  holds = kept.holds;
  idle = kept.idle;
  begun = kept.begun;
  interruptions = kept.interruptions;
}

not_late : (t : ℕ) (j : Job) → late_at t (Some j) ≡ None → t < j.key
not_late t j = go (leb j.key t) refl
  where
    go : (b : Bool) → leb j.key t ≡ b → cond b (Some j) None ≡ None → t < j.key
    go true e h = let z : ◌≡◌ {A = ℕ} 0 1 = cc in absurd (omega arith)
    go false e h = leb-false j.key t e

sorted_unmissed : (t : ℕ) (j : Job) (js : List Job) → t < j.key → Sorted before (j ∷ js) → AllByRecursion (λ k. t < k.key) (j ∷ js)
sorted_unmissed t j js h s =
    (h, All-weaker (λ k. before k j ≡ false) (λ k. t < k.key) (λ k e. omega (arith, least_key j k e)) js s.0)

unmissed_by : (t : ℕ) (h : Option HeldJob) (js : List Job) → Sorted before js → late_at t (most_urgent h js) ≡ None → AllByRecursion (λ k. t < k.key) (pending_of h js)
unmissed_by t None [] s e = tt
unmissed_by t None (j ∷ js) s e = sorted_unmissed t j js (not_late t j e) s
unmissed_by t (Some held) [] s e = (not_late t held.job e, tt)
unmissed_by t (Some held) (k ∷ ks) s e = go (before k held.job) refl (not_late t (urgent_of held.job (Some k)) e)
  where
    go : (b : Bool) → before k held.job ≡ b → t < (cond b k held.job).key → AllByRecursion (λ y. t < y.key) (held.job ∷ k ∷ ks)
    go true x h = (omega (arith, least_key k held.job (before_one_way k held.job x)), sorted_unmissed t k ks h s)
    go false x h = (h, sorted_unmissed t k ks (omega (arith, least_key held.job k x)) s)

-- a bench that a check did not stop has no late job
pub sound_checked : (rows : List Row) (s : State) → Kept rows 0 s → Sound rows (checked s)
sound_checked rows s kept =
    record { kept = kept_checked rows s kept; unmissed = λ e. unmissed_by s.clock s.hand s.waiting kept.sorted e }
