-- A table whose demand is bounded never misses a deadline, and so an admitted table never does.
use Rattle.std.proofs.Common.{◌≡◌, ℕ, zero, suc, ◌+◌, ◌<◌, ◌≤◌, Bool, true, false, cond, eqb, List, [], ◌∷◌, length, Some, None, Option, refl, ap, ⊎_elim, arith}
use Rattle.std.specs.List.{AllByRecursion}
use Rattle.std.proofs.lemmas.List.Sums.{sum_by-cons}
use Rattle.std.proofs.lemmas.Bool.{cases_lt, lt-leb}
use Rattle.sheet.specs.declared.row.Row.{Row}
use Rattle.sheet.specs.Tables.{rows_of}
use Rattle.verdict.specs.Test.{row_at}
use Rattle.ready.specs.declared.job.Job.{Job}
use Rattle.ready.specs.Order.{before}
use Rattle.rules.specs.declared.call.Call.{Call}
use Rattle.rules.specs.declared.call.Call.TheVariants.{Step, Counts, TaskCounts, First}
use Rattle.rules.specs.declared.hand.Held.{Held}
use Rattle.duty_log.specs.declared.refusal.StepRefusal.TheVariants.{LastClock}
use Rattle.rules.specs.State.{State, opened, pending_of}
use Rattle.rules.specs.Release.{released}
use Rattle.rules.specs.declared.letter.Letter.{Letter}
use Rattle.rules.specs.Tick.{turn_of, after_turn, most_urgent, late_at, missed, checked, tick}
use Rattle.rules.specs.Letters.{letter_of}
use Rattle.rules.specs.Step.{last_clock, refused, step_by, step_running}
use Rattle.rules.specs.Run.{called, run_from, after_run}
use Rattle.rules.specs.Demand.{Bounded, BoundedIsPunctual}
use Rattle.rules.specs.Promises.{Punctual}
use Rattle.rules.proofs.Rows.{Ranges, ranges_at}
use Rattle.rules.proofs.Tasks.{opened_length}
use Rattle.rules.proofs.Devi.{bounded}
use Rattle.rules.proofs.Work.{left_by, work_by, left_near, earliest, ahead_room}
use Rattle.rules.proofs.Room.{Live, after_releases}
use Rattle.rules.proofs.Turns.{HasRoom, after_tick}

-- where no pending work is due by t, no pending job is
none_due : (rows : List Row) (t : ℕ) (js : List Job) → AllByRecursion (Live rows t) js → work_by t js ≡ 0 → AllByRecursion (λ j. t < j.key) js
none_due rows t [] a z = tt
none_due rows t (j ∷ js) a z =
    let sum = sum_by-cons (left_by t) j js in
    (⊎_elim (λ h. h) (λ k. absurd (omega (arith, left_near t j k, a.0.0))) (cases_lt t j.key), none_due rows t js a.1 (omega arith))

not_late : (t : ℕ) (j : Job) → t < j.key → late_at t (Some j) ≡ None
not_late t j h = ap (λ (b : Bool). cond b (Some j) None) (lt-leb j.key t h)

no_miss : (t : ℕ) (hand : Option Held) (waiting : List Job) → AllByRecursion (λ j. t < j.key) (pending_of hand waiting) → late_at t (most_urgent hand waiting) ≡ None
no_miss t None [] a = refl
no_miss t None (j ∷ js) a = not_late t j a.0
no_miss t (Some held) [] a = not_late t held.job a.0
no_miss t (Some held) (w ∷ js) a = go (before w held.job)
  where
    go : (b : Bool) → late_at t (Some (cond b w held.job)) ≡ None
    go true = not_late t w a.1.0
    go false = not_late t held.job a.0

no_room_at_once : (x y t : ℕ) → (0 < x → x + y + t ≤ t) → x ≡ 0
no_room_at_once zero y t f = refl
no_room_at_once (suc x) y t f = absurd (omega (arith, f (omega arith)))

-- a state with room up to its clock has no miss
in_time : (rows : List Row) (m : ℕ) (s : State) → s.clock < m → HasRoom rows m s → missed s ≡ None
in_time rows m s below h =
    let none = no_room_at_once _ _ s.clock (h.room s.clock below) in
    no_miss s.clock s.hand s.waiting (none_due rows s.clock (pending_of s.hand s.waiting) h.live (omega arith))

-- what every state of a run keeps
pub record Safe (rows : List Row) (m : ℕ) (s : State) : Type 0 where
  pub has_room : HasRoom rows m s
  pub running : s.clock < m → s.miss ≡ None

module _ (rows : List Row) (m : ℕ) (fine : (i : ℕ) → Ranges (row_at i rows)) (bounded : Bounded m rows) where
  opened_safe : Safe rows m (opened rows)
  opened_safe = record {
    has_room = record {
      counted = opened_length (length rows);
      live = tt;
      held = tt;
      sorted = tt;
      room = λ d below some. omega (arith, ahead_room rows m (earliest rows (opened rows).tasks) d 0 fine bounded below (omega arith));
    };
    running = λ _. refl;
  }

  checked_safe : (s : State) → HasRoom rows m s → Safe rows m (checked s)
  checked_safe s h = record { has_room = h; running = λ below. in_time rows m s below h }

  ticked_safe : (l : Letter) (s : State) → Safe rows m s → Safe rows m (tick rows l (released rows s)).state
  ticked_safe l s h =
      checked_safe (after_turn rows l (turn_of (released rows s).hand (released rows s).waiting) (released rows s))
      (after_tick rows m l (released rows s) (released rows s).waiting (released rows s).hand fine bounded (after_releases rows m s fine h.has_room))

  read_safe : (l : Option Letter) (s : State) → Safe rows m s → Safe rows m (step_by rows l s).state
  read_safe None s h = h
  read_safe (Some l) s h = ticked_safe l s h

  step_safe : (c : ℕ) (miss : Option Job) (s : State) → Safe rows m s → Safe rows m (step_running rows c miss s).state
  step_safe c (Some j) s h = h
  step_safe c None s h = go (eqb s.clock last_clock)
    where
      go : (b : Bool) → Safe rows m (cond b (refused LastClock s) (step_by rows (letter_of c) s)).state
      go true = h
      go false = read_safe (letter_of c) s h

  called_safe : (call : Call) (s : State) → Safe rows m s → Safe rows m (called rows call s)
  called_safe (Step c) s h = step_safe c s.miss s h
  called_safe Counts s h = h
  called_safe (TaskCounts i) s h = h
  called_safe First s h = h

  run_safe : (calls : List Call) (s : State) → Safe rows m s → Safe rows m (run_from rows calls s)
  run_safe [] s h = h
  run_safe (call ∷ calls) s h = run_safe calls (called rows call s) (called_safe call s h)

  pub always_safe : (calls : List Call) → Safe rows m (after_run rows calls)
  always_safe calls = run_safe calls (opened rows) opened_safe

pub bounded_punctual : BoundedIsPunctual
bounded_punctual t m demand calls below = (always_safe (rows_of t) m (ranges_at (rows_of t) t.lawful) demand calls).running below

-- the demand is bounded in windows of every length, so also beyond the clock that the run has come to
pub punctual : Punctual
punctual t calls admitted =
    let m : ℕ = suc (after_run (rows_of t) calls).clock in
    bounded_punctual t m (bounded m (rows_of t) t.lawful admitted) calls (omega arith)
