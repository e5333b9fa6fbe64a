-- What a release leaves of what a bench awaits.
use Rattle.std.proofs.Common.{◌≡◌, ℕ, ◌+◌, ◌-◌, ◌*◌, ◌<◌, ◌≤◌, List, length, get_or, true, Some, None, sym, ap, ◌∙◌, subst, ⊎_elim, le-mul_of_pos_right, arith}
use Rattle.std.proofs.lemmas.List.{get_or-set_same, get_or-set_other}
use Rattle.std.proofs.lemmas.Bool.{cases_eq, lt-leb, ne_eqb, cond-false}
use Rattle.sheet.specs.declared.row.Row.{Row}
use Rattle.sheet.specs.Rows.{lawful_after}
use Rattle.verdict.specs.Test.{row_at}
use Rattle.ready.specs.Sorted.{placed, ordered}
use Rattle.ready.specs.Waiting.{first_of, rest_of}
use Rattle.ready.proofs.Orderings.{length_ordered}
use Rattle.heap.specs.declared.release.Release.{Release}
use Rattle.heap.specs.declared.releases.Releases.{Releases}
use Rattle.heap.specs.Coming.{earlier}
use Rattle.heap.specs.Releases.{coming, coming_list}
use Rattle.rules.specs.declared.counts.TaskCounts.{TaskCounts}
use Rattle.rules.specs.State.{State, no_counts, task_at}
use Rattle.rules.specs.Release.{with_release, release, released}
use Rattle.rules.proofs.Rows.{ranges_at}
use Rattle.duty_bench.specs.Awaited.{next_time, one_each, NoneBefore, Awaits, due_at, first_due}
use Rattle.duty_bench.specs.Bounds.{Counted}
use Rattle.duty_bench.proofs.Awaiting.{First, first_is, none_due, length_one_each, renewed}
use Rattle.duty_bench.proofs.Releasing.{time_renewed, time_kept, dues, none_released, released_first, fewer_due}

-- The rows of a table.

pub soon : (rows : List Row) → lawful_after 0 rows ≡ true → (i : ℕ) → ((row_at i rows).deadline ≤ 2882880) × ((row_at i rows).period ≤ 720720)
soon rows lawful i =
    let r = ranges_at rows lawful i in (omega (arith, r.deadline_within, r.period_within), omega (arith, r.period_within))

-- One job more is released.

counted_release : (t i : ℕ) (xs : List TaskCounts) → i - 1 < length xs → (task_at i xs).released ≤ t → Counted (t + 1) t xs → Counted (t + 1) t (with_release i xs)
counted_release t i xs l few c k = ⊎_elim
    (λ (e : k ≡ i - 1). subst P (sym (ap (λ (m : ℕ). get_or (with_release i xs) m no_counts) e ∙ get_or-set_same xs (i - 1) _ no_counts l))
    (let h = c (i - 1) in (omega arith, h.1, h.2)))
    (λ (ne : k ≡ i - 1 → ⊥). subst P (sym (get_or-set_other xs (i - 1) k _ no_counts ne)) (c k))
    (cases_eq k (i - 1))
  where
    P : TaskCounts → Type 0
    P x = (x.released ≤ t + 1) × (x.done ≤ t) × (x.given ≤ t)

-- a job of a task whose next release is at the clock: it has released no more jobs than the clock says
released_few : (phase released period clock : ℕ) → 0 < period → phase + released * period ≡ clock → released ≤ clock
released_few phase released period clock h e = omega (arith, le-mul_of_pos_right {m = period} released h)

-- how many tasks are due
abbrev pub due_count : List Row → State → ℕ
due_count rows s = dues (next_time rows s.tasks) s.clock (length rows)

module _ (rows : List Row) (s : State) (r : Releases) (a : Awaits rows s.tasks s.clock r) where
  abbrev times : ℕ → ℕ
  times = next_time rows s.tasks

  -- No task is due.

  module _ (none : first_due s.clock r ≡ None) where
    later : (k : ℕ) → 1 ≤ k → k ≤ length rows → s.clock < times k
    later = none_due times (length rows) s.clock a.none_before (ap (λ (xs : List Release). due_at s.clock (first_of xs)) (sym a.awaited) ∙ none)

    pub all_out : Awaits rows s.tasks (s.clock + 1) r
    all_out = record { lawful = a.lawful; few = a.few; awaited = a.awaited; none_before = λ k low high. omega (arith, later k low high) }

    -- nothing is left to release
    pub none_left : s ≡ released rows s
    none_left = sym (none_released rows (length rows) s (λ k low high. ne_eqb (times k) s.clock (λ e. omega (arith, later k low high))))

  -- Task i is due.

  module _ (i : ℕ) (due : first_due s.clock r ≡ Some i) (whole : length s.tasks ≡ 32) where
    first : First times (length rows) s.clock i
    first = first_is times (length rows) s.clock a.none_before i (ap (λ (xs : List Release). due_at s.clock (first_of xs)) (sym a.awaited) ∙ due)

    pub within : (1 ≤ i) × (i ≤ length s.tasks)
    within = (first.low, omega (arith, first.high, a.few))

    period_some : 0 < (row_at i rows).period
    period_some = (ranges_at rows a.lawful i).some_period

    few_released : (task_at i s.tasks).released ≤ s.clock
    few_released = released_few (row_at i rows).phase (task_at i s.tasks).released (row_at i rows).period s.clock period_some first.now

    pub counted_after : Counted (s.clock + 1) s.clock s.tasks → Counted (s.clock + 1) s.clock (with_release i s.tasks)
    counted_after = counted_release s.clock i s.tasks (omega (arith, within.0, within.1)) few_released

    abbrev after : ℕ → ℕ
    after = next_time rows (with_release i s.tasks)

    after_here : after i ≡ s.clock + (row_at i rows).period
    after_here = time_renewed rows i s.tasks first.low within.1 ∙ ap (λ (t : ℕ). t + (row_at i rows).period) first.now

    others : (k : ℕ) → 1 ≤ k → (k ≡ i → ⊥) → after k ≡ times k
    others = time_kept rows i s.tasks first.low

    room : length (rest_of (ordered earlier (one_each times (length rows)))) < 32
    room = omega (arith, ap length first.list, length_ordered earlier (one_each times (length rows)), length_one_each times (length rows), a.few)

    awaited_after : coming_list (record { time = s.clock + (row_at i rows).period; task = i }) (rest_of (coming r))
        ≡ ordered earlier (one_each after (length rows))
    awaited_after =
        ap (λ (xs : List Release). coming_list (record { time = s.clock + (row_at i rows).period; task = i }) (rest_of xs)) a.awaited
        ∙ cond-false _ _ _ (lt-leb 32 (length (rest_of (ordered earlier (one_each times (length rows))))) room)
        ∙ ap (λ (t : ℕ). placed earlier (record { time = t; task = i }) (rest_of (ordered earlier (one_each times (length rows))))) (sym after_here)
        ∙ renewed times after i first.low others (length rows) (rest_of (ordered earlier (one_each times (length rows)))) first.high
        (omega (arith, after_here, first.now, period_some)) first.list

    none_before_after : NoneBefore rows (with_release i s.tasks) s.clock
    none_before_after k low high = ⊎_elim
        (λ (e : k ≡ i). subst (λ (n : ℕ). s.clock ≤ after n) (sym e) (omega (arith, after_here)))
        (λ (ne : k ≡ i → ⊥). omega (arith, others k low ne, a.none_before k low high))
        (cases_eq k i)

    pub awaits_after : (next : Releases) → coming next ≡ coming_list (record { time = s.clock + (row_at i rows).period; task = i }) (rest_of (coming r))
        → Awaits rows (with_release i s.tasks) s.clock next
    awaits_after next list = record {
      lawful = a.lawful;
      few = a.few;
      awaited = list ∙ awaited_after;
      none_before = none_before_after;
    }

    -- what is left to release makes the same state
    pub released_on : released rows (release rows i s) ≡ released rows s
    released_on = released_first rows i s first.low within.1 period_some first.now (length rows) first.high first.before

    -- and fewer tasks are due
    pub fewer_left : due_count rows (release rows i s) < due_count rows s
    fewer_left = fewer_due rows i s first.low within.1 period_some first.now (length rows) first.high
