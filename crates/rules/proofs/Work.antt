-- The work that is due by a time: what pends of it, what is still to come, and how long a hold can keep it waiting.
use Rattle.std.proofs.Common.{◌≡◌, ℕ, zero, suc, ◌+◌, ◌-◌, ◌<◌, ◌≤◌, max, Bool, true, false, cond, leb, List, [], ◌∷◌, length, Some, None, Option, get_or, take, set, sum_by, refl, ap, subst, add-one, arith}
use Rattle.std.specs.List.{AllByRecursion}
use Rattle.std.proofs.lemmas.List.{take_all}
use Rattle.std.proofs.lemmas.List.Sums.{sum_by-cons, sum_by_more}
use Rattle.std.proofs.lemmas.Bool.{lt-leb, le-leb}
use Rattle.sheet.specs.declared.row.Row.{Row}
use Rattle.sheet.specs.Rows.{blank}
use Rattle.verdict.specs.Test.{row_at}
use Rattle.ready.specs.declared.job.Job.{Job}
use Rattle.ready.specs.Order.{before}
use Rattle.ready.proofs.Urgency.{least_key}
use Rattle.duty_log.specs.declared.line.Event.{Event}
use Rattle.rules.specs.declared.counts.TaskCounts.{TaskCounts}
use Rattle.rules.specs.declared.hand.Held.{Held}
use Rattle.rules.specs.State.{no_counts, task_at}
use Rattle.rules.specs.Release.{next_release}
use Rattle.rules.specs.Tick.{with_tick}
use Rattle.rules.specs.Demand.{demand, need, blocking, Bounded}
use Rattle.rules.proofs.Rows.{Ranges}
use Rattle.rules.proofs.Demand.{demand_mono}

-- the units that a job has left, if it is due by d
abbrev pub left_by : ℕ → Job → ℕ
left_by d j = cond (leb j.key d) j.left 0

-- the units left of the jobs that are due by d
abbrev pub work_by : ℕ → List Job → ℕ
work_by d js = sum_by (left_by d) js

-- the earliest next release of task i
abbrev pub earliest : List Row → List TaskCounts → ℕ → ℕ
earliest rows tasks i = next_release (row_at i rows) (task_at i tasks).released

-- the units of jobs of the first n tasks that may be released from t on, each no sooner than its task's earliest next release, and would be due by d
abbrev pub ahead_by : List Row → (ℕ → ℕ) → (d t n : ℕ) → ℕ
ahead_by rows next d t zero = 0
ahead_by rows next d t (suc n) = ahead_by rows next d t n + demand (row_at (suc n) rows) (d - max (next (suc n)) t)

-- how long a hold can still keep a job waiting that is due by d
abbrev pub hold_left : List Row → ℕ → Option Held → ℕ
hold_left rows d None = 0
hold_left rows d (Some held) = cond (leb held.job.key d) 0 ((row_at held.job.task rows).hold + 1 - held.holds)

pub left_near : (d : ℕ) (j : Job) → j.key ≤ d → left_by d j ≡ j.left
left_near d j k = ap (λ (b : Bool). cond b j.left 0) (le-leb j.key d k)

pub left_far : (d : ℕ) (j : Job) → d < j.key → left_by d j ≡ 0
left_far d j k = ap (λ (b : Bool). cond b j.left 0) (lt-leb j.key d k)

pub hold_near : (rows : List Row) (d : ℕ) (j : Job) (holds : ℕ) → j.key ≤ d → hold_left rows d (Some (record { job = j; holds = holds })) ≡ 0
hold_near rows d j holds k = ap (λ (b : Bool). cond b 0 ((row_at j.task rows).hold + 1 - holds)) (le-leb j.key d k)

pub hold_far : (rows : List Row) (d : ℕ) (j : Job) (holds : ℕ) → d < j.key
    → hold_left rows d (Some (record { job = j; holds = holds })) ≡ (row_at j.task rows).hold + 1 - holds
hold_far rows d j holds k = ap (λ (b : Bool). cond b 0 ((row_at j.task rows).hold + 1 - holds)) (lt-leb j.key d k)

pub hold_most : (rows : List Row) (d : ℕ) (j : Job) (holds : ℕ) → hold_left rows d (Some (record { job = j; holds = holds })) ≤ (row_at j.task rows).hold + 1 - holds
hold_most rows d j holds = go (leb j.key d)
  where
    go : (b : Bool) → cond b 0 ((row_at j.task rows).hold + 1 - holds) ≤ (row_at j.task rows).hold + 1 - holds
    go true = omega arith
    go false = omega arith

-- behind a job that is due past d nothing is due by d
pub work_behind : (d : ℕ) (j : Job) (js : List Job) → d < j.key → AllByRecursion (λ k. before k j ≡ false) js → work_by d js ≡ 0
work_behind d j [] h a = refl
work_behind d j (k ∷ ks) h a =
    let late : d < k.key = omega (arith, least_key j k a.0) in
    omega (arith, sum_by-cons (left_by d) k ks, left_far d k late, work_behind d j ks h a.1)

-- the work to come depends on the earliest releases of those tasks alone
pub ahead_same : (rows : List Row) (f g : ℕ → ℕ) (d t n : ℕ) → ((i : ℕ) → 1 ≤ i → i ≤ n → f i ≡ g i) → ahead_by rows f d t n ≡ ahead_by rows g d t n
ahead_same rows f g d t zero e = refl
ahead_same rows f g d t (suc n) e =
    let here : f (suc n) ≡ g (suc n) = e (suc n) (omega arith) (omega arith) in
    let last : demand (row_at (suc n) rows) (d - max (f (suc n)) t) ≡ demand (row_at (suc n) rows) (d - max (g (suc n)) t)
    = ap (λ (x : ℕ). demand (row_at (suc n) rows) (d - max x t)) here in
    omega (arith, ahead_same rows f g d t n (λ i low high. e i low (omega arith)))

-- it is within the need of a window that begins at t
ahead_taken : (rows : List Row) (next : ℕ → ℕ) (d t n : ℕ) → ((i : ℕ) → Ranges (row_at i rows)) → n ≤ length rows
    → ahead_by rows next d t n ≤ sum_by (λ r. demand r (d - t)) (take n rows)
ahead_taken rows next d t zero fine h = omega arith
ahead_taken rows next d t (suc n) fine h =
    let k : n < length rows = omega arith in
    let at : suc n - 1 ≡ n = omega arith in
    let here : demand (row_at (suc n) rows) (d - t) ≡ demand (get_or rows n blank) (d - t) = ap (λ (i : ℕ). demand (get_or rows i blank) (d - t)) at in
    let more : sum_by (λ r. demand r (d - t)) (take (suc n) rows) ≡ sum_by (λ r. demand r (d - t)) (take n rows) + demand (get_or rows n blank) (d - t)
    = rw add-one at (sum_by_more (λ r. demand r (d - t)) rows n blank k) in
    omega (
      arith,
      ahead_taken rows next d t n fine (omega arith),
      demand_mono (row_at (suc n) rows) (d - max (next (suc n)) t) (d - t) (fine (suc n)).some_period (omega arith),
    )

pub ahead_need : (rows : List Row) (next : ℕ → ℕ) (d t : ℕ) → ((i : ℕ) → Ranges (row_at i rows))
    → ahead_by rows next d t (length rows) ≤ need rows (d - t)
ahead_need rows next d t fine =
    subst (λ (rs : List Row). ahead_by rows next d t (length rows) ≤ sum_by (λ r. demand r (d - t)) rs) (take_all (length rows) rows (omega arith))
    (ahead_taken rows next d t (length rows) fine (omega arith))

-- where nothing that is due by d pends, bounded demand leaves room for what is to come and for a hold
pub ahead_room : (rows : List Row) (m : ℕ) (next : ℕ → ℕ) (d t : ℕ) → ((i : ℕ) → Ranges (row_at i rows)) → Bounded m rows → d < m
    → 0 < ahead_by rows next d t (length rows) → ahead_by rows next d t (length rows) + blocking rows (d - t) + t ≤ d
ahead_room rows m next d t fine bounded below some =
    let within = ahead_need rows next d t fine in
    let room = bounded (d - t) (omega arith) (omega arith) in
    omega arith

-- a tick alters no earliest release
released_set : (tasks : List TaskCounts) (p q : ℕ) (k : TaskCounts) → k.released ≡ (get_or tasks p no_counts).released
    → (get_or (set tasks p k) q no_counts).released ≡ (get_or tasks q no_counts).released
released_set [] p q k e = refl
released_set (x ∷ xs) zero zero k e = e
released_set (x ∷ xs) zero (suc q) k e = refl
released_set (x ∷ xs) (suc p) zero k e = refl
released_set (x ∷ xs) (suc p) (suc q) k e = released_set xs p q k e

pub earliest_tick : (rows : List Row) (e : Event) (i : ℕ) (tasks : List TaskCounts) (k : ℕ)
    → earliest rows (with_tick e i tasks) k ≡ earliest rows tasks k
earliest_tick rows e i tasks k =
    ap (next_release (row_at k rows)) (released_set tasks (i - 1) (k - 1) _ refl)
