-- The counts of the tasks, by task, through a release and a tick.
use Rattle.std.proofs.Common.{◌≡◌, ℕ, zero, suc, ◌+◌, ◌-◌, ◌*◌, ◌≤◌, ◌⊎◌, List, length, get_or, set, replicate, All, sum_by, sym, refl, ap, ◌∙◌, subst, inl, inr, arith}
use Rattle.std.proofs.lemmas.List.{length-set, length-replicate, get_or-set_same, get_or-set_other}
use Rattle.std.proofs.lemmas.List.Folds.{sum_by-replicate}
use Rattle.std.proofs.lemmas.List.Sums.{sum_by-set}
use Rattle.std.proofs.lemmas.List.Elements.{All-from_get_or}
use Rattle.std.proofs.lemmas.Bool.{cases_eq}
use Rattle.duty_log.specs.declared.line.Event.{Event}
use Rattle.rules.specs.declared.counts.TaskCounts.{TaskCounts}
use Rattle.rules.specs.State.{no_counts, task_at}
use Rattle.rules.specs.Release.{with_release}
use Rattle.rules.specs.Tick.{one_done, with_tick}

-- the counts of the tasks where task i has those instead
abbrev pub with_task : ℕ → TaskCounts → List TaskCounts → List TaskCounts
with_task i k tasks = set tasks (i - 1) k

module _ (i : ℕ) (k : TaskCounts) (tasks : List TaskCounts) where
  pub same_with_task : 1 ≤ i → i ≤ length tasks → task_at i (with_task i k tasks) ≡ k
  same_with_task low high = get_or-set_same tasks (i - 1) k no_counts (omega arith)

  pub other_with_task : (l : ℕ) → 1 ≤ i → 1 ≤ l → (l ≡ i → ⊥) → task_at l (with_task i k tasks) ≡ task_at l tasks
  other_with_task l low low' ne = get_or-set_other tasks (i - 1) (l - 1) k no_counts (λ e. ne (omega arith))

  pub sum_with_task : (f : TaskCounts → ℕ) → 1 ≤ i → i ≤ length tasks → sum_by f (with_task i k tasks) + f (task_at i tasks) ≡ sum_by f tasks + f k
  sum_with_task f low high = sum_by-set f tasks (i - 1) k no_counts (omega arith)

-- what a change of task i leaves of the counts of task l: those of i are raised, the others stand
abbrev pub Raised : (l i a b c : ℕ) → TaskCounts → TaskCounts → Type 0
Raised l i a b c k m =
    ((l ≡ i) × (m.released ≡ k.released + a) × (m.done ≡ k.done + b) × (m.given ≡ k.given + c))
    ⊎ ((l ≡ i → ⊥) × (m.released ≡ k.released) × (m.done ≡ k.done) × (m.given ≡ k.given))

raised_with_task : (i : ℕ) (k : TaskCounts) (tasks : List TaskCounts) (a b c : ℕ)
    → k.released ≡ (task_at i tasks).released + a → k.done ≡ (task_at i tasks).done + b → k.given ≡ (task_at i tasks).given + c
    → (l : ℕ) → 1 ≤ i → i ≤ length tasks → 1 ≤ l → Raised l i a b c (task_at l tasks) (task_at l (with_task i k tasks))
raised_with_task i k tasks a b c released done given l low high low' = go (cases_eq l i)
  where
    same : task_at i (with_task i k tasks) ≡ k
    same = same_with_task i k tasks low high

    go : (l ≡ i) ⊎ (l ≡ i → ⊥) → Raised l i a b c (task_at l tasks) (task_at l (with_task i k tasks))
    go (inl e) =
        subst (λ (n : ℕ). Raised n i a b c (task_at n tasks) (task_at n (with_task i k tasks))) (sym e)
        (inl (refl, ap (λ (m : TaskCounts). m.released) same ∙ released, ap (λ (m : TaskCounts). m.done) same ∙ done, ap (λ (m : TaskCounts). m.given) same ∙ given))
    go (inr ne) =
        let z = other_with_task i k tasks l low low' ne in
        inr (ne, ap (λ (m : TaskCounts). m.released) z, ap (λ (m : TaskCounts). m.done) z, ap (λ (m : TaskCounts). m.given) z)

-- A release.

module _ (i : ℕ) (tasks : List TaskCounts) where
  pub length_release : length (with_release i tasks) ≡ length tasks
  length_release = length-set tasks (i - 1) _

  pub same_release : 1 ≤ i → i ≤ length tasks
      → task_at i (with_release i tasks)
      ≡ record { released = (task_at i tasks).released + 1; done = (task_at i tasks).done; given = (task_at i tasks).given }
  same_release low high = same_with_task i _ tasks low high

  pub other_release : (l : ℕ) → 1 ≤ i → 1 ≤ l → (l ≡ i → ⊥) → task_at l (with_release i tasks) ≡ task_at l tasks
  other_release l low low' ne = other_with_task i _ tasks l low low' ne

  pub given_release : 1 ≤ i → i ≤ length tasks → sum_by (λ k. k.given) (with_release i tasks) ≡ sum_by (λ k. k.given) tasks
  given_release low high = omega (arith, sum_with_task i (record { released = (task_at i tasks).released + 1; done = (task_at i tasks).done; given = (task_at i tasks).given }) tasks (λ k. k.given) low high)

  pub raised_release : (l : ℕ) → 1 ≤ i → i ≤ length tasks → 1 ≤ l → Raised l i 1 0 0 (task_at l tasks) (task_at l (with_release i tasks))
  raised_release l low high low' = raised_with_task i _ tasks 1 0 0 refl (omega arith) (omega arith) l low high low'

-- A tick.

module _ (e : Event) (i : ℕ) (tasks : List TaskCounts) where
  pub length_tick : length (with_tick e i tasks) ≡ length tasks
  length_tick = length-set tasks (i - 1) _

  pub given_tick : 1 ≤ i → i ≤ length tasks → sum_by (λ k. k.given) (with_tick e i tasks) ≡ sum_by (λ k. k.given) tasks + 1
  given_tick low high = omega (arith, sum_with_task i (record { released = (task_at i tasks).released; done = (task_at i tasks).done + one_done e; given = (task_at i tasks).given + 1 }) tasks (λ k. k.given) low high)

  pub raised_tick : (l : ℕ) → 1 ≤ i → i ≤ length tasks → 1 ≤ l → Raised l i 0 (one_done e) 1 (task_at l tasks) (task_at l (with_tick e i tasks))
  raised_tick l low high low' = raised_with_task i _ tasks 0 (one_done e) 1 (omega arith) refl refl l low high low'

-- The opening.

pub none_at : (n k : ℕ) → get_or (replicate n no_counts) k no_counts ≡ no_counts
none_at zero k = refl
none_at (suc n) zero = refl
none_at (suc n) (suc k) = none_at n k

pub opened_at : (n i : ℕ) → task_at i (replicate n no_counts) ≡ no_counts
opened_at n i = none_at n (i - 1)

pub opened_length : (n : ℕ) → length (replicate n no_counts) ≡ n
opened_length n = length-replicate n no_counts

pub opened_sum : (f : TaskCounts → ℕ) → f no_counts ≡ 0 → (n : ℕ) → sum_by f (replicate n no_counts) ≡ 0
opened_sum f z n = sum_by-replicate f n no_counts ∙ ap (λ (m : ℕ). n * m) z ∙ omega arith

-- what holds of each task's counts, by task and by list
pub all_tasks : (P : TaskCounts → Type 0) (tasks : List TaskCounts) → ((i : ℕ) → 1 ≤ i → i ≤ length tasks → P (task_at i tasks)) → All P tasks
all_tasks P tasks f =
    All-from_get_or P tasks no_counts
    (λ k h. let e : k + 1 - 1 ≡ k = omega arith in subst (λ (n : ℕ). P (get_or tasks n no_counts)) e (f (k + 1) (omega arith) (omega arith)))
