-- The invariant of a run: up to every time there is room for the work that is due by then. Releases keep it.
use Rattle.std.proofs.Common.{◌≡◌, ℕ, zero, suc, ◌+◌, ◌-◌, ◌*◌, ◌<◌, ◌≤◌, max, Bool, true, false, cond, List, length, Some, None, Option, sym, refl, ap, ◌∙◌, subst, arith}
use Rattle.std.specs.List.{AllByRecursion}
use Rattle.std.proofs.lemmas.List.Sums.{sum_by-cons}
use Rattle.std.proofs.lemmas.Bool.{eqb-true}
use Rattle.sheet.specs.declared.row.Row.{Row}
use Rattle.verdict.specs.Test.{row_at}
use Rattle.ready.specs.declared.job.Job.{Job}
use Rattle.ready.specs.Order.{before}
use Rattle.ready.specs.Sorted.{Sorted}
use Rattle.ready.proofs.Puts.{all_put, sorted_put, sum_by_put_le}
use Rattle.rules.specs.declared.counts.TaskCounts.{TaskCounts}
use Rattle.rules.specs.declared.hand.Held.{Held}
use Rattle.rules.specs.State.{State, task_at, pending_of}
use Rattle.rules.specs.Release.{next_release, due, next_job, with_release, release, releases, released}
use Rattle.rules.specs.Accounts.{Holds}
use Rattle.rules.specs.Demand.{demand}
use Rattle.rules.proofs.Rows.{Ranges}
use Rattle.rules.proofs.Tasks.{length_release, same_release, other_release}
use Rattle.rules.proofs.Releases.{all_waiting}
use Rattle.rules.proofs.Demand.{demand_mono, release_takes}
use Rattle.rules.proofs.Work.{left_by, work_by, earliest, ahead_by, ahead_same, hold_left}

-- a pending job at clock t: it has a unit left, and was released by t
abbrev pub Live : List Row → ℕ → Job → Type 0
Live rows t j = (1 ≤ j.left) × (j.key ≤ t + (row_at j.task rows).deadline)

-- the work that is due by d and pends or may still be released from `from` on
abbrev pub all_work : List Row → (d from : ℕ) → List TaskCounts → List Job → Option Held → ℕ
all_work rows d from tasks waiting hand = work_by d (pending_of hand waiting) + ahead_by rows (earliest rows tasks) d from (length rows)

-- at clock t, with releases still to come from `from` on: every time below m by which any work is due has room for all of it and for a hold
pub record Room (rows : List Row) (m t from : ℕ) (tasks : List TaskCounts) (waiting : List Job) (hand : Option Held) : Type 0 where
  pub counted : length tasks ≡ length rows
  pub live : AllByRecursion (Live rows t) (pending_of hand waiting)
  pub held : Holds rows hand
  pub sorted : Sorted before waiting
  pub room : (d : ℕ) → d < m → 0 < all_work rows d from tasks waiting hand
      → all_work rows d from tasks waiting hand + hold_left rows d hand + t ≤ d

-- the state r, in which the first n tasks have released what was due in the state s
pub record Through (rows : List Row) (s : State) (n : ℕ) (r : State) : Type 0 where
  pub clock : r.clock ≡ s.clock
  pub hand : r.hand ≡ s.hand
  pub counted : length r.tasks ≡ length rows
  pub others : (i : ℕ) → n < i → task_at i r.tasks ≡ task_at i s.tasks
  pub live : AllByRecursion (Live rows r.clock) r.waiting
  pub sorted : Sorted before r.waiting
  -- what the releases put into the list they took from what was to come
  pub moved : (d : ℕ) → work_by d r.waiting + ahead_by rows (earliest rows r.tasks) d (r.clock + 1) n
      ≤ work_by d s.waiting + ahead_by rows (earliest rows s.tasks) d r.clock n

module _ (rows : List Row) (s : State) (n : ℕ) (r : State) (fine : (i : ℕ) → Ranges (row_at i rows)) (h : Through rows s n r) where
  abbrev row : Row
  row = row_at (suc n) rows

  -- task n + 1 was not touched yet
  untouched : earliest rows r.tasks (suc n) ≡ earliest rows s.tasks (suc n)
  untouched = ap (λ (k : TaskCounts). next_release row k.released) (h.others (suc n) (omega arith))

  without : Through rows s (suc n) r
  without = record {
    clock = h.clock;
    hand = h.hand;
    counted = h.counted;
    others = λ i l. h.others i (omega arith);
    live = h.live;
    sorted = h.sorted;
    moved = λ d.
        let same : demand row (d - max (earliest rows r.tasks (suc n)) r.clock) ≡ demand row (d - max (earliest rows s.tasks (suc n)) r.clock)
        = ap (λ (e : ℕ). demand row (d - max e r.clock)) untouched in
        omega (
          arith,
          h.moved d,
          demand_mono row (d - max (earliest rows r.tasks (suc n)) (r.clock + 1)) (d - max (earliest rows r.tasks (suc n)) r.clock)
              (fine (suc n)).some_period (omega arith),
        );
  }

  module _ (within : n < length rows) (now : due rows (suc n) r ≡ true) where
    is_due : earliest rows r.tasks (suc n) ≡ r.clock
    is_due = eqb-true (earliest rows r.tasks (suc n)) r.clock now

    next_due : earliest rows (with_release (suc n) r.tasks) (suc n) ≡ r.clock + row.period
    next_due =
        let e = same_release (suc n) r.tasks (omega arith) (omega (arith, h.counted)) in
        let f : earliest rows (with_release (suc n) r.tasks) (suc n) ≡ row.phase + ((task_at (suc n) r.tasks).released + 1) * row.period
        = ap (λ (k : TaskCounts). next_release row k.released) e in
        omega (arith, f, is_due)

    before_same : (d t : ℕ) → ahead_by rows (earliest rows (with_release (suc n) r.tasks)) d t n ≡ ahead_by rows (earliest rows r.tasks) d t n
    before_same d t =
        ahead_same rows (earliest rows (with_release (suc n) r.tasks)) (earliest rows r.tasks) d t n
        (λ i low high. ap (λ (k : TaskCounts). next_release (row_at i rows) k.released)
        (other_release (suc n) r.tasks i (omega arith) low (λ e. omega arith)))

    with_job : Through rows s (suc n) (release rows (suc n) r)
    with_job = record {
      clock = h.clock;
      hand = h.hand;
      counted = length_release (suc n) r.tasks ∙ h.counted;
      others = λ i l. other_release (suc n) r.tasks i (omega arith) (omega arith) (λ e. omega arith) ∙ h.others i (omega arith);
      live = all_put (next_job rows (suc n) r) r.waiting (Live rows r.clock) (omega (arith, (fine (suc n)).some_execution), omega arith) h.live;
      sorted = sorted_put (next_job rows (suc n) r) r.waiting h.sorted;
      moved = λ d.
          let same : demand row (d - max (earliest rows r.tasks (suc n)) r.clock) ≡ demand row (d - max (earliest rows s.tasks (suc n)) r.clock)
          = ap (λ (e : ℕ). demand row (d - max e r.clock)) untouched in
          omega (
            arith,
            h.moved d,
            sum_by_put_le (next_job rows (suc n) r) r.waiting (left_by d),
            before_same d (r.clock + 1),
            release_takes row d r.clock (earliest rows r.tasks (suc n)) (earliest rows (with_release (suc n) r.tasks) (suc n)) (fine (suc n))
                (omega (arith, is_due)) (omega (arith, next_due)),
          );
    }

pub through : (rows : List Row) (s : State) (n : ℕ) → ((i : ℕ) → Ranges (row_at i rows)) → n ≤ length rows
    → length s.tasks ≡ length rows → AllByRecursion (Live rows s.clock) s.waiting → Sorted before s.waiting
    → Through rows s n (releases rows n s)
through rows s zero fine h counted live sorted = record {
  clock = refl;
  hand = refl;
  counted = counted;
  others = λ i l. refl;
  live = live;
  sorted = sorted;
  moved = λ d. omega arith;
}
through rows s (suc n) fine h counted live sorted = go (due rows (suc n) (releases rows n s)) refl (through rows s n fine (omega arith) counted live sorted)
  where
    go : (b : Bool) → due rows (suc n) (releases rows n s) ≡ b → Through rows s n (releases rows n s)
        → Through rows s (suc n) (cond b (release rows (suc n) (releases rows n s)) (releases rows n s))
    go true now t = with_job rows s n (releases rows n s) fine t (omega arith) now
    go false now t = without rows s n (releases rows n s) fine t

-- the hand beside the waiting list
with_waiting : (P : Job → Type 0) (hand : Option Held) (js ks : List Job) → AllByRecursion P (pending_of hand js) → AllByRecursion P ks → AllByRecursion P (pending_of hand ks)
with_waiting P None js ks a b = b
with_waiting P (Some held) js ks a b = (a.0, b)

hand_work : (d : ℕ) (hand : Option Held) (js ks : List Job) → work_by d (pending_of hand ks) + work_by d js ≡ work_by d (pending_of hand js) + work_by d ks
hand_work d None js ks = omega arith
hand_work d (Some held) js ks = omega (arith, sum_by-cons (left_by d) held.job js, sum_by-cons (left_by d) held.job ks)

-- with the releases of this tick in, the others come from the next tick on
pub after_releases : (rows : List Row) (m : ℕ) (s : State) → ((i : ℕ) → Ranges (row_at i rows))
    → Room rows m s.clock s.clock s.tasks s.waiting s.hand
    → Room rows m (released rows s).clock ((released rows s).clock + 1) (released rows s).tasks (released rows s).waiting (released rows s).hand
after_releases rows m s fine h =
    moved_on (released rows s) (through rows s (length rows) fine (omega arith) h.counted (all_waiting (Live rows s.clock) s.hand s.waiting h.live) h.sorted)
  where
    moved_on : (r : State) → Through rows s (length rows) r → Room rows m r.clock (r.clock + 1) r.tasks r.waiting r.hand
    moved_on r t =
        let k : Room rows m r.clock r.clock s.tasks s.waiting r.hand
        = subst (λ (c : ℕ). Room rows m c c s.tasks s.waiting r.hand) (sym t.clock)
        (subst (λ (x : Option Held). Room rows m s.clock s.clock s.tasks s.waiting x) (sym t.hand) h) in
        record {
          counted = t.counted;
          live = with_waiting (Live rows r.clock) r.hand s.waiting r.waiting k.live t.live;
          held = k.held;
          sorted = t.sorted;
          room = λ d below some.
              let less = t.moved d in
              let beside = hand_work d r.hand s.waiting r.waiting in
              let before = k.room d below (omega arith) in
              omega arith;
        }
