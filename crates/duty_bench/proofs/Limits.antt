-- The counts of the first tasks alone: a step leaves of them what it leaves of all.
use Rattle.std.proofs.Common.{◌≡◌, ℕ, zero, suc, ◌+◌, ◌-◌, ◌≤◌, Bool, true, false, cond, eqb, List, length, take, sym, refl, ap, ◌∙◌, arith}
use Rattle.std.proofs.lemmas.List.{get_or-take}
use Rattle.sheet.specs.declared.row.Row.{Row}
use Rattle.sheet.specs.Rows.{units}
use Rattle.verdict.specs.Test.{row_at}
use Rattle.ready.specs.Waiting.{put_list}
use Rattle.rules.specs.declared.counts.TaskCounts.{TaskCounts}
use Rattle.rules.specs.declared.letter.Letter.{Letter}
use Rattle.rules.specs.State.{State, no_counts, task_at}
use Rattle.rules.specs.Release.{key_at, next_release, due, with_release, release, releases, released}
use Rattle.rules.specs.Tick.{Turn, nobody, runs, turn_of, one_done, event_at, with_tick, after_turn, checked, line_of, missed, miss_line, tick}
use Rattle.duty_log.specs.declared.line.Event.{Event}
use Rattle.duty_bench.specs.Model.{limited}
use Rattle.duty_bench.proofs.Updates.{given_tick, take_updated}

-- the state with those counts of tasks
abbrev with_tasks : List TaskCounts → State → State
with_tasks tasks s = record {
  clock = s.clock;
  waiting = s.waiting;
  hand = s.hand;
  previous = s.previous;
  tasks = tasks;
  counts = s.counts;
  miss = s.miss;
}

-- A tick.

take_tick : (n : ℕ) (e : Event) (i : ℕ) (xs : List TaskCounts) → take n (with_tick e i xs) ≡ with_tick e i (take n xs)
take_tick n e i xs = take_updated no_counts (given_tick (one_done e)) n (i - 1) xs

limited_turn : (rows : List Row) (l : Letter) (n : ℕ) (t : Turn) (s : State) → limited n (after_turn rows l t s) ≡ after_turn rows l t (limited n s)
limited_turn rows l n nobody s = refl
limited_turn rows l n (runs j holds js) s =
    ap (λ tasks. with_tasks tasks (after_turn rows l (runs j holds js) s)) (take_tick n (event_at rows l j holds) j.task s.tasks)

limited_tick : (rows : List Row) (l : Letter) (n : ℕ) (s : State) → limited n (tick rows l s).state ≡ (tick rows l (limited n s)).state
limited_tick rows l n s = ap checked (limited_turn rows l n (turn_of s.hand s.waiting) s)

same_line : (rows : List Row) (l : Letter) (n : ℕ) (t : Turn) (s : State) → line_of rows l t s ≡ line_of rows l t (limited n s)
same_line rows l n nobody s = refl
same_line rows l n (runs j holds js) s = refl

same_outcome : (rows : List Row) (l : Letter) (n : ℕ) (s : State) → (tick rows l s).outcome ≡ (tick rows l (limited n s)).outcome
same_outcome rows l n s k = record {
  tick = same_line rows l n (turn_of s.hand s.waiting) s k;
  miss = miss_line (missed (limited_turn rows l n (turn_of s.hand s.waiting) s k));
}

-- A release.

one_more : TaskCounts → TaskCounts
one_more k = record { released = k.released + 1; done = k.done; given = k.given }

take_release : (n i : ℕ) (xs : List TaskCounts) → take n (with_release i xs) ≡ with_release i (take n xs)
unfolding one_more
take_release n i xs = take_updated no_counts one_more n (i - 1) xs

module _ (rows : List Row) (n i : ℕ) (low : 1 ≤ i) (high : i ≤ n) (s : State) where
  same_count : (task_at i s.tasks).released ≡ (task_at i (take n s.tasks)).released
  same_count = ap (λ (k : TaskCounts). k.released) (sym (get_or-take n s.tasks (i - 1) no_counts (omega arith)))

  same_due : due rows i s ≡ due rows i (limited n s)
  same_due = ap (λ m. eqb (next_release (row_at i rows) m) s.clock) same_count

  limited_release : limited n (release rows i s) ≡ release rows i (limited n s)
  limited_release k = record {
    clock = s.clock;
    waiting = put_list (record { key = key_at (row_at i rows) s.clock; task = i; number = same_count k + 1; left = units (row_at i rows) }) s.waiting;
    hand = s.hand;
    previous = s.previous;
    tasks = take_release n i s.tasks k;
    counts = s.counts;
    miss = s.miss;
  }

limited_cond : (b : Bool) (n : ℕ) (x y : State) → limited n (cond b x y) ≡ cond b (limited n x) (limited n y)
limited_cond true n x y = refl
limited_cond false n x y = refl

limited_releases : (rows : List Row) (n m : ℕ) (s : State) → m ≤ n → limited n (releases rows m s) ≡ releases rows m (limited n s)
limited_releases rows n zero s h = refl
limited_releases rows n (suc m) s h =
    let x : State = releases rows m s in
    limited_cond (due rows (suc m) x) n (release rows (suc m) x) x
    ∙ (λ k. cond (same_due rows n (suc m) (omega arith) h x k) (limited_release rows n (suc m) (omega arith) h x k) (limited n x))
    ∙ ap (λ (y : State). cond (due rows (suc m) y) (release rows (suc m) y) y) (limited_releases rows n m s (omega arith))

-- A step.

pub limited_step : (rows : List Row) (l : Letter) (s : State)
    → limited (length rows) (tick rows l (released rows s)).state ≡ (tick rows l (released rows (limited (length rows) s))).state
limited_step rows l s =
    limited_tick rows l (length rows) (released rows s)
    ∙ ap (λ (x : State). (tick rows l x).state) (limited_releases rows (length rows) (length rows) s (omega arith))

pub limited_answer : (rows : List Row) (l : Letter) (s : State)
    → (tick rows l (released rows s)).outcome ≡ (tick rows l (released rows (limited (length rows) s))).outcome
limited_answer rows l s =
    same_outcome rows l (length rows) (released rows s)
    ∙ ap (λ (x : State). (tick rows l x).outcome) (limited_releases rows (length rows) (length rows) s (omega arith))
