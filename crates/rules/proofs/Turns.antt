-- A tick keeps the room.
use Rattle.std.proofs.Common.{◌≡◌, ℕ, ◌+◌, ◌-◌, ◌<◌, ◌≤◌, Bool, true, false, leb, List, [], ◌∷◌, length, Some, None, Option, refl, ◌∙◌, arith}
use Rattle.std.specs.List.{AllByRecursion}
use Rattle.std.proofs.ByRecursion.{All-weaker}
use Rattle.std.proofs.lemmas.List.Sums.{sum_by-cons}
use Rattle.std.proofs.lemmas.Bool.{leb-true, leb-false}
use Rattle.sheet.specs.declared.row.Row.{Row}
use Rattle.verdict.specs.Test.{row_at}
use Rattle.ready.specs.declared.job.Job.{Job}
use Rattle.ready.specs.Order.{before}
use Rattle.ready.specs.Sorted.{Sorted}
use Rattle.ready.proofs.Puts.{sum_by_put_le}
use Rattle.duty_log.specs.declared.line.Event.{Event}
use Rattle.duty_log.specs.declared.line.Event.TheVariants.{PutBack, Held, Done, Idle}
use Rattle.rules.specs.declared.counts.TaskCounts.{TaskCounts}
use Rattle.rules.specs.declared.hand.Held.{Held as HeldJob}
use Rattle.rules.specs.State.{State, pending_of}
use Rattle.rules.specs.declared.letter.Letter.{Letter}
use Rattle.rules.specs.Tick.{turn_of, worked, hand_after, waiting_after, with_tick, event_at, after_turn}
use Rattle.rules.specs.Demand.{Bounded}
use Rattle.rules.proofs.Rows.{Ranges}
use Rattle.rules.proofs.Tasks.{length_tick}
use Rattle.rules.proofs.Demand.{hold_blocks}
use Rattle.rules.proofs.Work.{left_by, work_by, earliest, ahead_by, ahead_same, ahead_room, earliest_tick, hold_left, left_near, left_far, hold_near, hold_far, hold_most, work_behind}
use Rattle.rules.proofs.Ticks.{Tells, event_tells, all_after_run, sorted_after_run, holds_after_run}
use Rattle.rules.proofs.Room.{Live, all_work, Room}

-- the work that the job and the list leave
after_work : (d holds : ℕ) (e : Event) (j : Job) (js : List Job) → work_by d (pending_of (hand_after e j holds) (waiting_after e j js)) ≤ left_by d j + work_by d js
after_work d holds PutBack j js = sum_by_put_le j js (left_by d)
after_work d holds Held j js = omega (arith, sum_by-cons (left_by d) j js)
after_work d holds Done j js = omega arith
after_work d holds Idle j js = omega arith

-- a job that is due by d keeps nothing waiting that is due by d; another does for the rest of its hold
after_near : (rows : List Row) (d holds : ℕ) (e : Event) (j : Job) → j.key ≤ d → hold_left rows d (hand_after e j holds) ≡ 0
after_near rows d holds PutBack j k = refl
after_near rows d holds Held j k = hold_near rows d j (holds + 1) k
after_near rows d holds Done j k = refl
after_near rows d holds Idle j k = refl

after_far : (rows : List Row) (d holds : ℕ) (e : Event) (j : Job) → hold_left rows d (hand_after e j holds) ≤ (row_at j.task rows).hold - holds
after_far rows d holds PutBack j = omega arith
after_far rows d holds Held j = omega (arith, hold_most rows d j (holds + 1))
after_far rows d holds Done j = omega arith
after_far rows d holds Idle j = omega arith

-- a job runs for a tick: from the two cases of a time, by which the job is due or past which it is due
ran : (rows : List Row) (m t holds : ℕ) (e : Event) (tasks : List TaskCounts) (j : Job) (js : List Job)
    → length tasks ≡ length rows → Live rows t j → Tells e (j.left - 1) holds (row_at j.task rows).hold → AllByRecursion (Live rows t) js → Sorted before js
    → ((d : ℕ) → d < m → 0 < left_by d j + work_by d js + ahead_by rows (earliest rows tasks) d (t + 1) (length rows)
    → left_by d j + work_by d js + ahead_by rows (earliest rows tasks) d (t + 1) (length rows) + t ≤ d)
    → ((d : ℕ) → d < m → d < j.key → 0 < work_by d js + ahead_by rows (earliest rows tasks) d (t + 1) (length rows)
    → work_by d js + ahead_by rows (earliest rows tasks) d (t + 1) (length rows) + ((row_at j.task rows).hold - holds) + (t + 1) ≤ d)
    → Room rows m (t + 1) (t + 1) (with_tick e j.task tasks) (waiting_after e (worked j) js) (hand_after e (worked j) holds)
ran rows m t holds e tasks j js counted live fits lives sorted near far =
    record {
      counted = length_tick e j.task tasks ∙ counted;
      live = all_after_run (Live rows (t + 1)) e (worked j) (j.left - 1) holds (row_at j.task rows).hold js fits (λ left more. (left, omega arith))
          (All-weaker (Live rows t) (Live rows (t + 1)) (λ k a. (a.0, omega arith)) js lives);
      held = holds_after_run rows e j (j.left - 1) holds fits;
      sorted = sorted_after_run e (worked j) js sorted;
      room = λ d below. go d below (leb j.key d) refl;
    }
  where
    go : (d : ℕ) → d < m → (b : Bool) → leb j.key d ≡ b
        → 0 < all_work rows d (t + 1) (with_tick e j.task tasks) (waiting_after e (worked j) js) (hand_after e (worked j) holds)
        → all_work rows d (t + 1) (with_tick e j.task tasks) (waiting_after e (worked j) js) (hand_after e (worked j) holds)
        + hold_left rows d (hand_after e (worked j) holds) + (t + 1) ≤ d
    go d below true due some =
        let k : j.key ≤ d = leb-true j.key d due in
        let same = ahead_same rows (earliest rows (with_tick e j.task tasks)) (earliest rows tasks) d (t + 1) (length rows)
        (λ i _ _. earliest_tick rows e j.task tasks i) in
        let work = after_work d holds e (worked j) js in
        let left = left_near d j k in
        let then : left_by d (worked j) ≡ j.left - 1 = left_near d (worked j) k in
        let none = after_near rows d holds e (worked j) k in
        let one : 1 ≤ j.left = live.0 in
        let fit = near d below (omega arith) in
        omega arith
    go d below false past some =
        let k : d < j.key = leb-false j.key d past in
        let same = ahead_same rows (earliest rows (with_tick e j.task tasks)) (earliest rows tasks) d (t + 1) (length rows)
        (λ i _ _. earliest_tick rows e j.task tasks i) in
        let work = after_work d holds e (worked j) js in
        let then : left_by d (worked j) ≡ 0 = left_far d (worked j) k in
        let rest = after_far rows d holds e (worked j) in
        let fit = far d below k (omega arith) in
        omega arith

-- the room of a state between two steps
abbrev pub HasRoom : List Row → ℕ → State → Type 0
HasRoom rows m s = Room rows m s.clock s.clock s.tasks s.waiting s.hand

pub after_tick : (rows : List Row) (m : ℕ) (l : Letter) (s : State) (waiting : List Job) (hand : Option HeldJob) → ((i : ℕ) → Ranges (row_at i rows)) → Bounded m rows
    → Room rows m s.clock (s.clock + 1) s.tasks waiting hand → HasRoom rows m (after_turn rows l (turn_of hand waiting) s)
after_tick rows m l s [] None fine bounded h =
    record {
      counted = h.counted;
      live = tt;
      held = tt;
      sorted = tt;
      room = λ d below some.
          omega (arith, ahead_room rows m (earliest rows s.tasks) d (s.clock + 1) fine bounded below (omega arith));
    }
after_tick rows m l s (j ∷ js) None fine bounded h =
    ran rows m s.clock 0 (event_at rows l j 0) s.tasks j js h.counted h.live.0
    (event_tells l (j.left - 1) 0 (row_at j.task rows).hold) h.live.1 h.sorted.1
    (λ d below some.
    let sum = sum_by-cons (left_by d) j js in
    let fit = h.room d below (omega arith) in
    omega arith)
    (λ d below past some.
    let none = work_behind d j js past h.sorted.0 in
    let fit = ahead_room rows m (earliest rows s.tasks) d (s.clock + 1) fine bounded below (omega arith) in
    let late : j.key ≤ s.clock + (row_at j.task rows).deadline = h.live.0.1 in
    let block = hold_blocks rows j.task (d - (s.clock + 1)) (omega arith) in
    omega arith)
after_tick rows m l s js (Some held) fine bounded h =
    ran rows m s.clock held.holds (event_at rows l held.job held.holds) s.tasks held.job js h.counted h.live.0
    (event_tells l (held.job.left - 1) held.holds (row_at held.job.task rows).hold) h.live.1 h.sorted
    (λ d below some.
    let sum = sum_by-cons (left_by d) held.job js in
    let fit = h.room d below (omega arith) in
    omega arith)
    (λ d below past some.
    let sum = sum_by-cons (left_by d) held.job js in
    let none = left_far d held.job past in
    let rest = hold_far rows d held.job held.holds past in
    let fit = h.room d below (omega arith) in
    let most : held.holds ≤ (row_at held.job.task rows).hold = h.held.1 in
    omega arith)
