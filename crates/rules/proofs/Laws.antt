-- The laws of every run, from what every call keeps.
use Rattle.std.proofs.Common.{◌≡◌, ℕ, suc, ◌+◌, ◌-◌, ◌<◌, ◌≤◌, true, false, eqb, ◌⊎◌, List, [], ◌∷◌, length, Some, None, Option, Ok, count_by, sym, ap, ◌∙◌, subst, inl, inr, ⊎_elim, add-one, arith}
use Rattle.std.specs.List.{AllByRecursion}
use Rattle.std.proofs.ByRecursion.{All-weaker}
use Rattle.std.proofs.lemmas.List.Elements.{All-from_recursion}
use Rattle.std.proofs.lemmas.Bool.{cases_lt, ne_eqb, and_left}
use Rattle.sheet.specs.declared.row.Row.{Row}
use Rattle.sheet.specs.Tables.{rows_of}
use Rattle.verdict.specs.Test.{row_at}
use Rattle.ready.specs.declared.job.Job.{Job}
use Rattle.ready.specs.Order.{before}
use Rattle.ready.specs.Sorted.{Sorted}
use Rattle.ready.specs.Waiting.{of_task, is_job, stray, put_answer}
use Rattle.ready.proofs.Urgency.{before_self}
use Rattle.ready.proofs.Counting.{count_by_none}
use Rattle.ready.proofs.Lawful.{known_task}
use Rattle.rules.specs.declared.hand.Held.{Held}
use Rattle.rules.specs.State.{State, task_at, pending_of, pending}
use Rattle.rules.specs.Release.{next_release, due, next_job, releases, released}
use Rattle.rules.specs.Tick.{runs, turn_of}
use Rattle.rules.specs.Run.{after_run}
use Rattle.rules.specs.Deadlines.{deadlines_by, releases_before}
use Rattle.rules.specs.Promises.{EveryRun, Running, InTime, Punctual, DeadlinesMet}
use Rattle.rules.specs.Accounts.{ReleasedOnTime, NothingLost, InOrder, Proper, AllProper, WaitingLawful, HoldsFew, MostUrgentRuns, PutsAcceptedIfRunning, FitsTask, FitsJob, NumbersFit}
use Rattle.rules.proofs.Rows.{Ranges}
use Rattle.rules.proofs.Tasks.{all_tasks}
use Rattle.rules.proofs.Times.{released_then, counted_then, due_then, releases_within}
use Rattle.rules.proofs.Kept.{Ruled, ruled, seen_above, Kept, Sound, not_pending, found}
use Rattle.rules.proofs.Releases.{waiting_le, all_waiting, accepted, Between, kept_releases, released_hand, releases_sorted}
use Rattle.rules.proofs.Ticks.{put_back}
use Rattle.rules.proofs.Runs.{sound_released, sound_run}

-- the put of task i's release is accepted once the first n tasks have had their turn
abbrev Accepts : List Row → ℕ → State → ℕ → Type 0
Accepts rows n s i = due rows i (releases rows n s) ≡ true → put_answer (next_job rows i (releases rows n s)) (releases rows n s).waiting ≡ Ok tt

module _ (rows : List Row) (ok : Ruled rows) (s : State) (sound : Sound rows s) where
  abbrev kept : Kept rows 0 s
  kept = sound.kept

  pub on_time : ReleasedOnTime rows s
  on_time i low high = kept.times i low high ∙ ap (releases_before (row_at i rows)) (seen_above 0 i s.clock low)

  -- a number that is no task's has no pending jobs
  strangers : (i : ℕ) → (i < 1) ⊎ (length rows < i) → AllByRecursion (λ j. of_task i j ≡ false) (pending s)
  strangers i out = All-weaker (Proper rows s) (λ j. of_task i j ≡ false) (λ j p. ne_eqb j.task i (λ e. never j p e out)) (pending s) kept.proper
    where
      never : (j : Job) → Proper rows s j → j.task ≡ i → (i < 1) ⊎ (length rows < i) → ⊥
      never j p e (inl a) = omega (arith, p.low)
      never j p e (inr a) = omega (arith, p.high)

  strange_job : (i m : ℕ) → (i < 1) ⊎ (length rows < i) → count_by (is_job i m) (pending s) ≡ 0
  strange_job i m out =
      count_by_none (is_job i m) (pending s)
      (All-weaker (λ j. of_task i j ≡ false) (λ j. is_job i m j ≡ false) (λ j e. and_left (eqb j.task i) (eqb j.number m) e) (pending s) (strangers i out))

  within : (i : ℕ) → ((i < 1) ⊎ (length rows < i)) ⊎ ((1 ≤ i) × (i ≤ length rows))
  within i = ⊎_elim (λ a. inl (inl a)) (λ a. ⊎_elim (λ b. inl (inr b)) (λ b. inr (a, b)) (cases_lt (length rows) i)) (cases_lt i 1)

  once_pending : (i m : ℕ) → count_by (is_job i m) (pending s) ≤ 1
  once_pending i m = go (within i)
    where
      go : ((i < 1) ⊎ (length rows < i)) ⊎ ((1 ≤ i) × (i ≤ length rows)) → count_by (is_job i m) (pending s) ≤ 1
      go (inl out) = omega (arith, strange_job i m out)
      go (inr in') =
          ⊎_elim
          (λ undone. ⊎_elim
          (λ late. omega (arith, not_pending rows s kept.proper i m (inr late)))
          (λ out. omega (arith, kept.order i m in'.0 in'.1 undone out))
          (cases_lt (task_at i s.tasks).released m))
          (λ done. omega (arith, not_pending rows s kept.proper i m (inl done)))
          (cases_lt (task_at i s.tasks).done m)

  four_pending : (i : ℕ) → count_by (of_task i) (pending s) ≤ 4
  four_pending i = go (within i)
    where
      go : ((i < 1) ⊎ (length rows < i)) ⊎ ((1 ≤ i) × (i ≤ length rows)) → count_by (of_task i) (pending s) ≤ 4
      go (inl out) = omega (arith, count_by_none (of_task i) (pending s) (strangers i out))
      go (inr in') = omega (arith, kept.lost i in'.0 in'.1, kept.four i in'.0 in'.1)

  known : (j : Job) → Proper rows s j → stray j.task ≡ false
  known j p = known_task j.task (omega (arith, p.low)) (omega (arith, p.high, ok.few))

  pub lawful : WaitingLawful rows s
  lawful = record {
    sorted = kept.sorted;
    known = all_waiting (λ j. stray j.task ≡ false) s.hand s.waiting
        (All-weaker (Proper rows s) (λ j. stray j.task ≡ false) known (pending s) kept.proper);
    once = λ i m. omega (arith, once_pending i m, waiting_le (is_job i m) s.hand s.waiting);
    four = λ i. omega (arith, four_pending i, waiting_le (of_task i) s.hand s.waiting);
  }

  done_within : (i : ℕ) → 1 ≤ i → i ≤ length rows → (task_at i s.tasks).done ≤ (task_at i s.tasks).released
  done_within i low high = omega (arith, kept.lost i low high)

  released_within : (i : ℕ) → 1 ≤ i → i ≤ length rows → (task_at i s.tasks).released ≤ s.clock
  released_within i low high = omega (arith, on_time i low high, releases_within (row_at i rows) s.clock (ok.ranges i).some_period)

  fits_job : (j : Job) → Proper rows s j → FitsJob j
  fits_job j p =
      let r : Ranges (row_at j.task rows) = ok.ranges j.task in
      let a : next_release (row_at j.task rows) (j.number - 1) < s.clock
      = released_then (row_at j.task rows) (j.number - 1) s.clock r.some_period
      (omega (arith, p.undone, p.out, on_time j.task p.low p.high)) in
      let c = kept.clock in
      let d = released_within j.task p.low p.high in (
        omega (arith, p.key, r.deadline_within, r.period_within),
        omega (arith, p.high, ok.few),
        omega (arith, p.out),
        omega (arith, p.most, r.execution_period, r.period_within),
      )

  pub fits : NumbersFit rows s
  fits = record {
    clock = kept.clock;
    idle = kept.idle;
    begun = kept.begun;
    interruptions = kept.interruptions;
    tasks = all_tasks (FitsTask s) s.tasks (λ i low high.
        let in' : i ≤ length rows = omega (arith, kept.size) in
        record {
          released = released_within i low in';
          done = omega (arith, done_within i low in', released_within i low in');
          given = kept.given i low in';
        });
    jobs = All-from_recursion FitsJob (pending s) (All-weaker (Proper rows s) FitsJob fits_job (pending s) kept.proper);
  }

  pub urgent : MostUrgentRuns rows s
  urgent j holds js empty turn =
      All-from_recursion (λ k. before k j ≡ false) (pending (released rows s))
      (subst (λ (h : Option Held). AllByRecursion (λ k. before k j ≡ false) (pending_of h (released rows s).waiting)) (sym (released_hand rows s))
      (first s.hand (released rows s).waiting empty (releases_sorted rows (length rows) s kept.sorted) turn))
    where
      first : (h : Option Held) (w : List Job) → h ≡ None → Sorted before w → turn_of h w ≡ runs j holds js → AllByRecursion (λ k. before k j ≡ false) (pending_of h w)
      first (Some held) w x sorted e = let z : ◌≡◌ {A = ℕ} 0 1 = cc in absurd (omega arith)
      first None [] x sorted e = let z : ◌≡◌ {A = ℕ} 0 1 = cc in absurd (omega arith)
      first None (k ∷ ks) x sorted e =
          let z : k ≡ j = cc in subst (λ (y : Job). AllByRecursion (λ i. before i y ≡ false) (k ∷ ks)) z (before_self k, sorted.0)

  pub puts_accepted : PutsAcceptedIfRunning rows s
  puts_accepted going = record {
    releases = λ n in'. subst (λ (i : ℕ). Accepts rows n s i) (sym (add-one n)) (λ now. at n in' (kept_releases rows ok s kept (sound.unmissed going) n (omega arith)) now);
    back = λ l j holds js turn e.
        put_back rows ok (released rows s) (sound_released rows ok s sound going).kept j holds js
        (ap (λ (h : Option Held). turn_of h (released rows s).waiting) (released_hand rows s) ∙ turn);
  }
    where
      at : (n : ℕ) → n < length rows → Between rows n (releases rows n s) → due rows (suc n) (releases rows n s) ≡ true
          → put_answer (next_job rows (suc n) (releases rows n s)) (releases rows n s).waiting ≡ Ok tt
      at n in' b now = accepted rows ok n in' (releases rows n s) b.kept b.unmissed now

  pub in_time : Running rows s → InTime rows s
  in_time going i low high =
      ⊎_elim (λ lt. absurd (late lt)) (λ ge. ge) (cases_lt (task_at i s.tasks).done (deadlines_by (row_at i rows) s.clock))
    where
      late : (task_at i s.tasks).done < deadlines_by (row_at i rows) s.clock → ⊥
      late lt =
          let r : Ranges (row_at i rows) = ok.ranges i in
          let a : next_release (row_at i rows) (task_at i s.tasks).done + (row_at i rows).deadline ≤ s.clock
          = due_then (row_at i rows) (task_at i s.tasks).done s.clock r.some_period lt in
          let some : 1 ≤ (row_at i rows).deadline = r.some_deadline in
          let b : (task_at i s.tasks).done < releases_before (row_at i rows) s.clock
          = counted_then (row_at i rows) (task_at i s.tasks).done s.clock r.some_period (omega arith) in
          let f = found rows s kept.proper kept.order (λ j. s.clock < j.key) (sound.unmissed going) i ((task_at i s.tasks).done + 1) low high
          (omega arith) (omega (arith, on_time i low high)) in
          let e : (task_at i s.tasks).done + 1 - 1 ≡ (task_at i s.tasks).done = omega arith in
          let k : f.job.key ≡ next_release (row_at i rows) (task_at i s.tasks).done + (row_at i rows).deadline
          = subst (λ (n : ℕ). f.job.key ≡ next_release (row_at i rows) n + (row_at i rows).deadline) e f.key in
          let c : s.clock < f.job.key = f.holds in
          omega arith

-- After every run.

pub every_on_time : EveryRun ReleasedOnTime
every_on_time t calls = on_time (rows_of t) (ruled t) (after_run (rows_of t) calls) (sound_run t calls)

pub every_lost : EveryRun NothingLost
every_lost t calls = (sound_run t calls).kept.lost

pub every_order : EveryRun InOrder
every_order t calls = (sound_run t calls).kept.order

pub every_proper : EveryRun AllProper
every_proper t calls = All-from_recursion (Proper (rows_of t) (after_run (rows_of t) calls)) (pending (after_run (rows_of t) calls)) (sound_run t calls).kept.proper

pub every_lawful : EveryRun WaitingLawful
every_lawful t calls = lawful (rows_of t) (ruled t) (after_run (rows_of t) calls) (sound_run t calls)

pub every_holds : EveryRun HoldsFew
every_holds t calls = (sound_run t calls).kept.holds

pub every_fits : EveryRun NumbersFit
every_fits t calls = fits (rows_of t) (ruled t) (after_run (rows_of t) calls) (sound_run t calls)

pub every_urgent : EveryRun MostUrgentRuns
every_urgent t calls = urgent (rows_of t) (ruled t) (after_run (rows_of t) calls) (sound_run t calls)

pub every_accepted : EveryRun PutsAcceptedIfRunning
every_accepted t calls = puts_accepted (rows_of t) (ruled t) (after_run (rows_of t) calls) (sound_run t calls)

pub every_in_time : EveryRun (λ rows s. Running rows s → InTime rows s)
every_in_time t calls = in_time (rows_of t) (ruled t) (after_run (rows_of t) calls) (sound_run t calls)

-- so deadlines are met where an admitted table is never stopped
pub met_if_punctual : Punctual → DeadlinesMet
met_if_punctual punctual t calls admitted = every_in_time t calls (punctual t calls admitted)
