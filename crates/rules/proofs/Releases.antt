-- The releases of a step keep what every call keeps, and none of their puts is refused where nothing is late.
use Rattle.std.proofs.Common.{◌≡◌, ℕ, zero, suc, ◌+◌, ◌-◌, ◌<◌, ◌≤◌, Bool, true, false, cond, eqb, ◌⊎◌, List, length, Some, None, Option, Ok, sum_by, count_by, sym, refl, ap, ◌∙◌, subst, inl, inr, ⊎_elim, arith}
use Rattle.std.specs.List.{AllByRecursion}
use Rattle.std.proofs.ByRecursion.{All-weaker}
use Rattle.std.proofs.lemmas.List.Sums.{sum_by-cons}
use Rattle.std.proofs.lemmas.Bool.{cases_eq, cases_lt, cases_order, eqb-true, eqb-false, eq-eqb, ne_eqb, and_left, and_right, and_from}
use Rattle.sheet.specs.declared.row.Row.{Row}
use Rattle.verdict.specs.Test.{row_at}
use Rattle.ready.specs.declared.job.Job.{Job}
use Rattle.ready.specs.Order.{before}
use Rattle.ready.specs.Sorted.{Sorted}
use Rattle.ready.specs.Waiting.{of_task, is_job, put_answer, put_list}
use Rattle.ready.proofs.Counting.{count_by_cons}
use Rattle.ready.proofs.Lawful.{known_task}
use Rattle.ready.proofs.Puts.{answers_ok, sum_by_put, all_put, sorted_put}
use Rattle.rules.specs.declared.counts.TaskCounts.{TaskCounts}
use Rattle.rules.specs.declared.hand.Held.{Held}
use Rattle.rules.specs.State.{State, task_at, pending_of, pending}
use Rattle.rules.specs.Release.{next_release, due, next_job, release, releases, released}
use Rattle.rules.specs.Deadlines.{releases_before}
use Rattle.rules.specs.Accounts.{NothingLost, InOrder, Proper}
use Rattle.rules.proofs.Tasks.{Raised, length_release, raised_release}
use Rattle.rules.proofs.Times.{release_now, no_release_now}
use Rattle.rules.proofs.Kept.{Ruled, seen, seen_below, seen_above, NextInHand, Kept, Unmissed, proper_in, not_pending, few_pending}

-- what waits is pending
pub waiting_le : (p : Job → Bool) (h : Option Held) (js : List Job) → count_by p js ≤ count_by p (pending_of h js)
waiting_le p None js = omega arith
waiting_le p (Some held) js = omega (arith, count_by_cons p held.job js)

pub all_waiting : (P : Job → Type 0) (h : Option Held) (js : List Job) → AllByRecursion P (pending_of h js) → AllByRecursion P js
all_waiting P None js a = a
all_waiting P (Some held) js a = a.1

-- the pending jobs after a put
pub all_pending_put : (P : Job → Type 0) (h : Option Held) (j : Job) (js : List Job) → P j → AllByRecursion P (pending_of h js) → AllByRecursion P (pending_of h (put_list j js))
all_pending_put P None j js p a = all_put j js P p a
all_pending_put P (Some held) j js p a = (a.0, all_put j js P p a.1)

pub sum_pending_put : (f : Job → ℕ) (h : Option Held) (j : Job) (js : List Job) → put_answer j js ≡ Ok tt
    → sum_by f (pending_of h (put_list j js)) ≡ f j + sum_by f (pending_of h js)
sum_pending_put f None j js e = sum_by_put j js f e
sum_pending_put f (Some held) j js e =
    omega (arith, sum_by_put j js f e, sum_by-cons f held.job (put_list j js), sum_by-cons f held.job js)

pub count_pending_put : (p : Job → Bool) (h : Option Held) (j : Job) (js : List Job) → put_answer j js ≡ Ok tt
    → count_by p (pending_of h (put_list j js)) ≡ cond (p j) 1 0 + count_by p (pending_of h js)
count_pending_put p h j js e = sum_pending_put (λ k. cond (p k) 1 0) h j js e

-- The turn of task `suc n`.
module _ (rows : List Row) (ok : Ruled rows) (n : ℕ) (in' : n < length rows) (s : State) (kept : Kept rows n s) where
  -- its row, its counts, its next job, and the state once it is released
  abbrev its : Row
  its = row_at (suc n) rows

  abbrev counted : TaskCounts
  counted = task_at (suc n) s.tasks

  abbrev fresh : Job
  fresh = next_job rows (suc n) s

  abbrev after : State
  after = release rows (suc n) s

  timed : counted.released ≡ releases_before its s.clock
  timed = kept.times (suc n) (omega arith) in' ∙ ap (releases_before its) (seen_above n (suc n) s.clock (omega arith))

  -- the other tasks have released up to where they had
  seen_other : (l : ℕ) → (l ≡ suc n → ⊥) → seen n l s.clock ≡ seen (suc n) l s.clock
  seen_other l ne = go (cases_order l (suc n))
    where
      go : (l ≡ suc n) ⊎ ((l < suc n) ⊎ (suc n < l)) → seen n l s.clock ≡ seen (suc n) l s.clock
      go (inl e) = absurd (ne e)
      go (inr (inl lt)) = seen_below n l s.clock (omega arith) ∙ sym (seen_below (suc n) l s.clock (omega arith))
      go (inr (inr gt)) = seen_above n l s.clock (omega arith) ∙ sym (seen_above (suc n) l s.clock (omega arith))

  -- its releases once it has had its turn
  times_then : (m : ℕ) → m ≡ releases_before its (s.clock + 1) → m ≡ releases_before its (seen (suc n) (suc n) s.clock)
  times_then m e = e ∙ ap (releases_before its) (sym (seen_below (suc n) (suc n) s.clock (omega arith)))

  -- nothing is due: only the times have to be seen anew
  skipped : due rows (suc n) s ≡ false → Kept rows (suc n) s
  skipped late = record {
    size = kept.size;
    clock = kept.clock;
    times = λ l low high. go l low high (cases_eq l (suc n));
    four = kept.four;
    given = kept.given;
    lost = kept.lost;
    order = kept.order;
    proper = kept.proper;
    sorted = kept.sorted;
    next = kept.next;
    holds = kept.holds;
    idle = kept.idle;
    begun = kept.begun;
    interruptions = kept.interruptions;
  }
    where
      here : counted.released ≡ releases_before its (s.clock + 1)
      here =
          timed ∙ sym (no_release_now its s.clock (ok.ranges (suc n)).some_period
          (λ e. eqb-false (next_release its counted.released) s.clock late (ap (next_release its) timed ∙ e)))

      go : (l : ℕ) → 1 ≤ l → l ≤ length rows → (l ≡ suc n) ⊎ (l ≡ suc n → ⊥)
          → (task_at l s.tasks).released ≡ releases_before (row_at l rows) (seen (suc n) l s.clock)
      go l low high (inl e) =
          subst (λ (m : ℕ). (task_at m s.tasks).released ≡ releases_before (row_at m rows) (seen (suc n) m s.clock)) (sym e)
          (times_then counted.released here)
      go l low high (inr ne) = kept.times l low high ∙ ap (releases_before (row_at l rows)) (seen_other l ne)

  module _ (unmissed : Unmissed s) (now : due rows (suc n) s ≡ true) where
    on_time : next_release its counted.released ≡ s.clock
    on_time = eqb-true (next_release its counted.released) s.clock now

    three : counted.released ≤ counted.done + 3
    three = few_pending rows s ok kept.proper kept.order unmissed (suc n) (omega arith) in' on_time

    -- the new job does not wait
    new : count_by (is_job (suc n) (counted.released + 1)) (pending s) ≡ 0
    new = not_pending rows s kept.proper (suc n) (counted.released + 1) (inr (omega arith))

    pub accepted : put_answer fresh s.waiting ≡ Ok tt
    accepted = answers_ok fresh s.waiting (record {
      known = known_task (suc n) (omega arith) (omega (arith, ok.few));
      new = omega (arith, new, waiting_le (is_job (suc n) (counted.released + 1)) s.hand s.waiting);
      few = omega (arith, kept.lost (suc n) (omega arith) in', waiting_le (of_task (suc n)) s.hand s.waiting, three);
    })

    look : (l : ℕ) → 1 ≤ l → Raised l (suc n) 1 0 0 (task_at l s.tasks) (task_at l after.tasks)
    look l low = raised_release (suc n) s.tasks l (omega arith) (omega (arith, kept.size)) low

    count_after : (p : Job → Bool) → count_by p (pending after) ≡ cond (p fresh) 1 0 + count_by p (pending s)
    count_after p = count_pending_put p s.hand fresh s.waiting accepted

    proper_after : (j : Job) → Proper rows s j → Proper rows after j
    proper_after j p = go (look j.task p.low)
      where
        go : Raised j.task (suc n) 1 0 0 (task_at j.task s.tasks) (task_at j.task after.tasks) → Proper rows after j
        go (inl x) = proper_in rows s after j p (omega (arith, x.2, p.undone)) (omega (arith, x.1, p.out))
        go (inr x) = proper_in rows s after j p (omega (arith, x.2, p.undone)) (omega (arith, x.1, p.out))

    raised_here : ((task_at (suc n) after.tasks).released ≡ counted.released + 1) × ((task_at (suc n) after.tasks).done ≡ counted.done)
    raised_here = go (look (suc n) (omega arith))
      where
        go : Raised (suc n) (suc n) 1 0 0 counted (task_at (suc n) after.tasks)
            → ((task_at (suc n) after.tasks).released ≡ counted.released + 1) × ((task_at (suc n) after.tasks).done ≡ counted.done)
        go (inl x) = (x.1, omega (arith, x.2))
        go (inr x) = absurd (x.0 refl)

    fresh_proper : Proper rows after fresh
    fresh_proper = record {
      low = omega arith;
      high = in';
      undone = let e = kept.lost (suc n) (omega arith) in' in omega (arith, raised_here.1);
      out = omega (arith, raised_here.0);
      key =
          let e : counted.released + 1 - 1 ≡ counted.released = omega arith in
          subst (λ (m : ℕ). s.clock + its.deadline ≡ next_release its m + its.deadline) (sym e)
          (ap (λ (m : ℕ). m + its.deadline) (sym on_time));
      some = (ok.ranges (suc n)).some_execution;
      most = omega arith;
    }

    lost_after : NothingLost rows after
    lost_after l low high = go (look l low)
      where
        go : Raised l (suc n) 1 0 0 (task_at l s.tasks) (task_at l after.tasks)
            → (task_at l after.tasks).released ≡ (task_at l after.tasks).done + count_by (of_task l) (pending after)
        go (inl x) =
            let b : of_task l fresh ≡ true = eq-eqb (suc n) l (sym x.0) in
            let c : count_by (of_task l) (pending after) ≡ 1 + count_by (of_task l) (pending s)
            = count_after (of_task l) ∙ ap (λ (y : Bool). cond y 1 0 + count_by (of_task l) (pending s)) b in
            omega (arith, kept.lost l low high, x.1, x.2)
        go (inr x) =
            let b : of_task l fresh ≡ false = ne_eqb (suc n) l (λ e. x.0 (sym e)) in
            let c : count_by (of_task l) (pending after) ≡ 0 + count_by (of_task l) (pending s)
            = count_after (of_task l) ∙ ap (λ (y : Bool). cond y 1 0 + count_by (of_task l) (pending s)) b in
            omega (arith, kept.lost l low high, x.1, x.2)

    order_after : InOrder rows after
    order_after l m low high undone out = go (look l low) (cases_eq (counted.released + 1) m)
      where
        counts : (b : Bool) → is_job l m fresh ≡ b → count_by (is_job l m) (pending after) ≡ cond b 1 0 + count_by (is_job l m) (pending s)
        counts b e = count_after (is_job l m) ∙ ap (λ (y : Bool). cond y 1 0 + count_by (is_job l m) (pending s)) e

        go : Raised l (suc n) 1 0 0 (task_at l s.tasks) (task_at l after.tasks) → (counted.released + 1 ≡ m) ⊎ (counted.released + 1 ≡ m → ⊥)
            → count_by (is_job l m) (pending after) ≡ 1
        go (inl x) (inl e) =
            let c = counts true (and_from (eqb (suc n) l) (eqb (counted.released + 1) m) (eq-eqb (suc n) l (sym x.0)) (eq-eqb (counted.released + 1) m e)) in
            let z : count_by (is_job l m) (pending s) ≡ 0
            = subst (λ (a : ℕ). count_by (is_job a m) (pending s) ≡ 0) (sym x.0) (subst (λ (a : ℕ). count_by (is_job (suc n) a) (pending s) ≡ 0) e new) in
            omega arith
        go (inl x) (inr ne) =
            let c = counts false (and_right (eqb (suc n) l) (eqb (counted.released + 1) m) (ne_eqb (counted.released + 1) m ne)) in
            let e : (task_at l s.tasks).released ≡ counted.released = ap (λ (a : ℕ). (task_at a s.tasks).released) x.0 in
            let z : m ≤ (task_at l s.tasks).released
            = ⊎_elim (λ lt. absurd (ne (omega (arith, x.1, out)))) (λ ge. ge) (cases_lt (task_at l s.tasks).released m) in
            omega (arith, kept.order l m low high (omega (arith, x.2)) z)
        go (inr x) e =
            let c = counts false (and_left (eqb (suc n) l) (eqb (counted.released + 1) m) (ne_eqb (suc n) l (λ e. x.0 (sym e)))) in
            omega (arith, kept.order l m low high (omega (arith, x.2)) (omega (arith, x.1)))

    four_after : (l : ℕ) → 1 ≤ l → l ≤ length rows → (task_at l after.tasks).released ≤ (task_at l after.tasks).done + 4
    four_after l low high = go (look l low)
      where
        go : Raised l (suc n) 1 0 0 (task_at l s.tasks) (task_at l after.tasks) → (task_at l after.tasks).released ≤ (task_at l after.tasks).done + 4
        go (inl x) =
            let e : (task_at l s.tasks).released ≡ counted.released = ap (λ (a : ℕ). (task_at a s.tasks).released) x.0 in
            let d : (task_at l s.tasks).done ≡ counted.done = ap (λ (a : ℕ). (task_at a s.tasks).done) x.0 in
            omega (arith, x.1, x.2, three)
        go (inr x) = omega (arith, x.1, x.2, kept.four l low high)

    given_after : (l : ℕ) → 1 ≤ l → l ≤ length rows → (task_at l after.tasks).given ≤ s.clock
    given_after l low high = go (look l low)
      where
        go : Raised l (suc n) 1 0 0 (task_at l s.tasks) (task_at l after.tasks) → (task_at l after.tasks).given ≤ s.clock
        go (inl x) = omega (arith, x.3, kept.given l low high)
        go (inr x) = omega (arith, x.3, kept.given l low high)

    times_after : (l : ℕ) → 1 ≤ l → l ≤ length rows → (task_at l after.tasks).released ≡ releases_before (row_at l rows) (seen (suc n) l s.clock)
    times_after l low high = go (look l low)
      where
        one_more : releases_before its (s.clock + 1) ≡ releases_before its s.clock + 1
        one_more = release_now its s.clock (ok.ranges (suc n)).some_period (ap (next_release its) (sym timed) ∙ on_time)

        go : Raised l (suc n) 1 0 0 (task_at l s.tasks) (task_at l after.tasks)
            → (task_at l after.tasks).released ≡ releases_before (row_at l rows) (seen (suc n) l s.clock)
        go (inl x) =
            subst (λ (m : ℕ). (task_at m after.tasks).released ≡ releases_before (row_at m rows) (seen (suc n) m s.clock)) (sym x.0)
            (times_then (task_at (suc n) after.tasks).released (omega (arith, raised_here.0, timed, one_more)))
        go (inr x) = x.1 ∙ kept.times l low high ∙ ap (releases_before (row_at l rows)) (seen_other l x.0)

    next_after : (h : Option Held) (js : List Job) → AllByRecursion (Proper rows s) (pending_of h js) → NextInHand s.tasks h → NextInHand after.tasks h
    next_after None js a x = tt
    next_after (Some held) js a x = go (look held.job.task a.0.low)
      where
        go : Raised held.job.task (suc n) 1 0 0 (task_at held.job.task s.tasks) (task_at held.job.task after.tasks) → held.job.number ≡ (task_at held.job.task after.tasks).done + 1
        go (inl y) = omega (arith, y.2)
        go (inr y) = omega (arith, y.2)

    pub kept_release : Kept rows (suc n) after
    kept_release = record {
      size = length_release (suc n) s.tasks ∙ kept.size;
      clock = kept.clock;
      times = times_after;
      four = four_after;
      given = given_after;
      lost = lost_after;
      order = order_after;
      proper = all_pending_put (Proper rows after) s.hand fresh s.waiting fresh_proper
          (All-weaker (Proper rows s) (Proper rows after) proper_after (pending s) kept.proper);
      sorted = sorted_put fresh s.waiting kept.sorted;
      next = next_after s.hand s.waiting kept.proper kept.next;
      holds = kept.holds;
      idle = kept.idle;
      begun = kept.begun;
      interruptions = kept.interruptions;
    }

    pub unmissed_release : Unmissed after
    unmissed_release =
        all_pending_put (λ j. s.clock < j.key) s.hand fresh s.waiting
        (let d : 1 ≤ its.deadline = (ok.ranges (suc n)).some_deadline in omega arith) unmissed

-- what holds once the first n tasks have released what is due
pub record Between (rows : List Row) (n : ℕ) (s : State) : Type 0 where
  pub kept : Kept rows n s
  pub unmissed : Unmissed s

pub kept_releases : (rows : List Row) → Ruled rows → (s : State) → Kept rows 0 s → Unmissed s → (n : ℕ) → n ≤ length rows → Between rows n (releases rows n s)
kept_releases rows ok s kept unmissed zero h = record { kept = kept; unmissed = unmissed }
kept_releases rows ok s kept unmissed (suc n) h = go (due rows (suc n) (releases rows n s)) refl (kept_releases rows ok s kept unmissed n (omega arith))
  where
    go : (b : Bool) → due rows (suc n) (releases rows n s) ≡ b → Between rows n (releases rows n s)
        → Between rows (suc n) (cond b (release rows (suc n) (releases rows n s)) (releases rows n s))
    go true e x = record {
      kept = kept_release rows ok n h (releases rows n s) x.kept x.unmissed e;
      unmissed = unmissed_release rows ok n h (releases rows n s) x.kept x.unmissed e;
    }
    go false e x = record { kept = skipped rows ok n h (releases rows n s) x.kept e; unmissed = x.unmissed }

-- what the releases leave alone
pub releases_keep : {X : Type 0} (f : State → X) (rows : List Row) → ((i : ℕ) (s : State) → f (release rows i s) ≡ f s) → (n : ℕ) (s : State)
    → f (releases rows n s) ≡ f s
releases_keep f rows h zero s = refl
releases_keep f rows h (suc n) s = go (due rows (suc n) (releases rows n s)) (releases_keep f rows h n s)
  where
    go : (b : Bool) → f (releases rows n s) ≡ f s → f (cond b (release rows (suc n) (releases rows n s)) (releases rows n s)) ≡ f s
    go true e = h (suc n) (releases rows n s) ∙ e
    go false e = e

pub released_hand : (rows : List Row) (s : State) → (released rows s).hand ≡ s.hand
released_hand rows s = releases_keep (λ t. t.hand) rows (λ i t. refl) (length rows) s

pub released_clock : (rows : List Row) (s : State) → (released rows s).clock ≡ s.clock
released_clock rows s = releases_keep (λ t. t.clock) rows (λ i t. refl) (length rows) s

-- the waiting list stays in order, also where a put is refused
pub releases_sorted : (rows : List Row) (n : ℕ) (s : State) → Sorted before s.waiting → Sorted before (releases rows n s).waiting
releases_sorted rows zero s h = h
releases_sorted rows (suc n) s h = go (due rows (suc n) (releases rows n s)) (releases_sorted rows n s h)
  where
    go : (b : Bool) → Sorted before (releases rows n s).waiting
        → Sorted before (cond b (release rows (suc n) (releases rows n s)) (releases rows n s)).waiting
    go true x = sorted_put (next_job rows (suc n) (releases rows n s)) (releases rows n s).waiting x
    go false x = x
