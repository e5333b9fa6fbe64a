-- What every call keeps of a bench, on every table.
use Rattle.std.proofs.Common.{◌≡◌, ℕ, ◌+◌, ◌-◌, ◌*◌, ◌<◌, ◌≤◌, Bool, true, false, cond, leb, ◌⊎◌, List, [], ◌∷◌, length, None, Option, Some, count_by, ap, subst, ⊎_elim, mul-le-mul_right, arith}
use Rattle.std.specs.List.{AllByRecursion}
use Rattle.std.proofs.lemmas.List.{length-take}
use Rattle.std.proofs.ByRecursion.{All-weaker}
use Rattle.std.proofs.lemmas.Bool.{cases_Bool, cases_lt, le-leb, lt-leb}
use Rattle.sheet.specs.declared.row.Row.{Row}
use Rattle.sheet.specs.declared.table.Table.{Table}
use Rattle.sheet.specs.Tables.{rows_of}
use Rattle.verdict.specs.Test.{row_at}
use Rattle.ready.specs.declared.job.Job.{Job}
use Rattle.ready.specs.Order.{before}
use Rattle.ready.specs.Sorted.{Sorted}
use Rattle.ready.specs.Waiting.{is_job}
use Rattle.ready.proofs.Counting.{count_by_none, some_passes}
use Rattle.ready.proofs.Lawful.{that_job}
use Rattle.rules.specs.declared.counts.TaskCounts.{TaskCounts}
use Rattle.rules.specs.declared.hand.Held.{Held}
use Rattle.rules.specs.State.{State, task_at, pending}
use Rattle.rules.specs.Release.{next_release}
use Rattle.rules.specs.Step.{last_clock}
use Rattle.rules.specs.Deadlines.{releases_before}
use Rattle.rules.specs.Accounts.{NothingLost, InOrder, Proper, HoldsFew}
use Rattle.rules.proofs.Rows.{Ranges, ranges_at}

-- what follows from two facts of each element
pub all_both : {X : Type 0} (P Q R : X → Type 0) → ((x : X) → P x → Q x → R x) → (xs : List X) → AllByRecursion P xs → AllByRecursion Q xs → AllByRecursion R xs
all_both P Q R f [] a b = tt
all_both P Q R f (x ∷ xs) a b = (f x a.0 b.0, all_both P Q R f xs a.1 b.1)

-- what is known of a table's rows
pub record Ruled (rows : List Row) : Type 0 where
  pub ranges : (i : ℕ) → Ranges (row_at i rows)
  pub few : length rows ≤ 32

pub ruled : (t : Table) → Ruled (rows_of t)
ruled t =
    record { ranges = ranges_at (rows_of t) t.lawful; few = let a = length-take t.count t.slots in let b : t.count ≤ 32 = t.few in omega arith }

-- the clock up to which task i has released its jobs, once the first n tasks have released what is due
abbrev pub seen : (n i t : ℕ) → ℕ
seen n i t = cond (leb i n) (t + 1) t

pub seen_below : (n i t : ℕ) → i ≤ n → seen n i t ≡ t + 1
seen_below n i t h = ap (λ (b : Bool). cond b (t + 1) t) (le-leb i n h)

pub seen_above : (n i t : ℕ) → n < i → seen n i t ≡ t
seen_above n i t h = ap (λ (b : Bool). cond b (t + 1) t) (lt-leb i n h)

-- a job in the hand is the first of its task that is not done
abbrev pub NextInHand : List TaskCounts → Option Held → Type 0
NextInHand tasks None = Unit {0}
NextInHand tasks (Some held) = held.job.number ≡ (task_at held.job.task tasks).done + 1

-- each pending job is proper, as a proof by cases of the list has it
abbrev pub EachProper : List Row → State → Type 0
EachProper rows s = AllByRecursion (Proper rows s) (pending s)

-- what every call keeps, and every release of the first n tasks; it holds of a stopped bench too
pub record Kept (rows : List Row) (n : ℕ) (s : State) : Type 0 where
  pub size : length s.tasks ≡ length rows
  pub clock : s.clock ≤ last_clock
  pub times : (i : ℕ) → 1 ≤ i → i ≤ length rows → (task_at i s.tasks).released ≡ releases_before (row_at i rows) (seen n i s.clock)
  pub four : (i : ℕ) → 1 ≤ i → i ≤ length rows → (task_at i s.tasks).released ≤ (task_at i s.tasks).done + 4
  pub given : (i : ℕ) → 1 ≤ i → i ≤ length rows → (task_at i s.tasks).given ≤ s.clock
  pub lost : NothingLost rows s
  pub order : InOrder rows s
  pub proper : EachProper rows s
  pub sorted : Sorted before s.waiting
  pub next : NextInHand s.tasks s.hand
  pub holds : HoldsFew rows s
  pub idle : s.counts.idle ≤ s.clock
  pub begun : s.counts.begun ≤ s.clock
  pub interruptions : s.counts.interruptions ≤ s.clock

-- no pending job has its deadline at or before the clock
abbrev pub Unmissed : State → Type 0
Unmissed s = AllByRecursion (λ j. s.clock < j.key) (pending s)

-- what holds of a bench after every call: unless it is stopped, nothing is late
pub record Sound (rows : List Row) (s : State) : Type 0 where
  pub kept : Kept rows 0 s
  pub unmissed : s.miss ≡ None → Unmissed s

-- a proper job in another state
pub proper_in : (rows : List Row) (s s' : State) (j : Job) → Proper rows s j
    → (task_at j.task s'.tasks).done < j.number → j.number ≤ (task_at j.task s'.tasks).released → Proper rows s' j
proper_in rows s s' j p undone out =
    record { low = p.low; high = p.high; undone = undone; out = out; key = p.key; some = p.some; most = p.most }

-- a job that is done or not released is not pending
pub not_pending : (rows : List Row) (s : State) → EachProper rows s → (i m : ℕ)
    → (m ≤ (task_at i s.tasks).done) ⊎ ((task_at i s.tasks).released < m) → count_by (is_job i m) (pending s) ≡ 0
not_pending rows s all i m why =
    count_by_none (is_job i m) (pending s) (All-weaker (Proper rows s) (λ j. is_job i m j ≡ false) other (pending s) all)
  where
    never : (j : Job) → Proper rows s j → is_job i m j ≡ true → (m ≤ (task_at i s.tasks).done) ⊎ ((task_at i s.tasks).released < m) → ⊥
    never j p e w =
        let x = that_job i m j e in
        let d : (task_at j.task s.tasks).done ≡ (task_at i s.tasks).done = ap (λ (k : ℕ). (task_at k s.tasks).done) x.0 in
        let r : (task_at j.task s.tasks).released ≡ (task_at i s.tasks).released = ap (λ (k : ℕ). (task_at k s.tasks).released) x.0 in
        ⊎_elim (λ a. omega (arith, x.1, p.undone)) (λ a. omega (arith, x.1, p.out)) w

    other : (j : Job) → Proper rows s j → is_job i m j ≡ false
    other j p = ⊎_elim (λ e. absurd (never j p e why)) (λ e. e) (cases_Bool (is_job i m j))

-- a pending job, by its number
pub record Found (rows : List Row) (P : Job → Type 0) (i m : ℕ) : Type 0 where
  pub job : Job
  pub task : job.task ≡ i
  pub number : job.number ≡ m
  pub key : job.key ≡ next_release (row_at i rows) (m - 1) + (row_at i rows).deadline
  pub holds : P job

-- a job that is released and not done is pending, with its key and all that holds of pending jobs
pub found : (rows : List Row) (s : State) → EachProper rows s → InOrder rows s → (P : Job → Type 0) → AllByRecursion P (pending s)
    → (i m : ℕ) → 1 ≤ i → i ≤ length rows → (task_at i s.tasks).done < m → m ≤ (task_at i s.tasks).released → Found rows P i m
found rows s proper order P all i m low high undone out =
    let x = some_passes (is_job i m) (λ j. Proper rows s j × P j) (pending s) (omega (arith, order i m low high undone out))
    (all_both (Proper rows s) P (λ j. Proper rows s j × P j) (λ j p q. (p, q)) (pending s) proper all) in
    let e = that_job i m x.0 x.1.0 in
    record {
      job = x.0;
      task = e.0;
      number = e.1;
      key =
          subst (λ (k : ℕ). x.0.key ≡ next_release (row_at i rows) (k - 1) + (row_at i rows).deadline) e.1
          (subst (λ (k : ℕ). x.0.key ≡ next_release (row_at k rows) (x.0.number - 1) + (row_at k rows).deadline) e.0 x.1.1.0.key);
      holds = x.1.1.1;
    }

-- where nothing is late, at most three jobs of a task are pending as its next one comes: a deadline is at most four periods
pub few_pending : (rows : List Row) (s : State) → Ruled rows → EachProper rows s → InOrder rows s → Unmissed s → (i : ℕ) → 1 ≤ i → i ≤ length rows
    → next_release (row_at i rows) (task_at i s.tasks).released ≡ s.clock
    → (task_at i s.tasks).released ≤ (task_at i s.tasks).done + 3
few_pending rows s ok proper order fresh i low high now =
    ⊎_elim
    (λ lt.
    let f = found rows s proper order (λ j. s.clock < j.key) fresh i ((task_at i s.tasks).done + 1) low high (omega arith) (omega arith) in
    let e : (task_at i s.tasks).done + 1 - 1 ≡ (task_at i s.tasks).done = omega arith in
    let k : f.job.key ≡ next_release (row_at i rows) (task_at i s.tasks).done + (row_at i rows).deadline
    = subst (λ (n : ℕ). f.job.key ≡ next_release (row_at i rows) n + (row_at i rows).deadline) e f.key in
    let w : (row_at i rows).deadline ≤ 4 * (row_at i rows).period = (ok.ranges i).deadline_within in
    let c : s.clock < f.job.key = f.holds in
    absurd (apart (task_at i s.tasks).released (task_at i s.tasks).done (row_at i rows).period (row_at i rows).deadline lt (omega arith)))
    (λ ge. ge)
    (cases_lt ((task_at i s.tasks).done + 3) (task_at i s.tasks).released)
  where
    apart : (r d p dl : ℕ) → d + 3 < r → (dl ≤ 4 * p) × (r * p < d * p + dl) → ⊥
    apart r d p dl lt h = let a : (d + 4) * p ≤ r * p = mul-le-mul_right p (omega arith) in omega arith
