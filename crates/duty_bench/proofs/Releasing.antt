-- Point 1 of a step by single releases: the first task that is due releases its job, until none is due.
use Rattle.std.proofs.Common.{◌≡◌, ℕ, zero, suc, ◌+◌, ◌-◌, ◌<◌, ◌≤◌, true, false, cond, eqb, List, length, sym, refl, ap, ◌∙◌, subst, ⊎_elim, add-mul, arith}
use Rattle.std.proofs.lemmas.List.{get_or-set_same, get_or-set_other}
use Rattle.std.proofs.lemmas.Bool.{cases_eq, eq-eqb, ne_eqb, cond-true, cond-false}
use Rattle.sheet.specs.declared.row.Row.{Row}
use Rattle.verdict.specs.Test.{row_at}
use Rattle.rules.specs.declared.counts.TaskCounts.{TaskCounts}
use Rattle.rules.specs.State.{State, no_counts, task_at}
use Rattle.rules.specs.Release.{next_release, due, with_release, release, releases}
use Rattle.duty_bench.specs.Awaited.{next_time}

-- the next release of a task after one more job
next_more : (r : Row) (n : ℕ) → next_release r (n + 1) ≡ next_release r n + r.period
next_more r n = omega (arith, add-mul n 1 r.period)

module _ (rows : List Row) (i : ℕ) (xs : List TaskCounts) (low : 1 ≤ i) where
  -- a release moves the task's next release by a period
  pub time_renewed : i ≤ length xs → next_time rows (with_release i xs) i ≡ next_time rows xs i + (row_at i rows).period
  time_renewed high =
      ap (λ (k : TaskCounts). next_release (row_at i rows) k.released) (get_or-set_same xs (i - 1) _ no_counts (omega arith))
      ∙ next_more (row_at i rows) (task_at i xs).released

  -- and leaves those of the others
  pub time_kept : (k : ℕ) → 1 ≤ k → (k ≡ i → ⊥) → next_time rows (with_release i xs) k ≡ next_time rows xs k
  time_kept k a ne =
      ap (λ (c : TaskCounts). next_release (row_at k rows) c.released) (get_or-set_other xs (i - 1) (k - 1) _ no_counts (λ e. ne (omega arith)))

-- the tasks among the first n whose time is the clock
abbrev pub dues : (ℕ → ℕ) → ℕ → ℕ → ℕ
dues f clock zero = 0
dues f clock (suc n) = cond (eqb (f (suc n)) clock) 1 0 + dues f clock n

module _ (f g : ℕ → ℕ) (clock i : ℕ) (low : 1 ≤ i) (same : (k : ℕ) → 1 ≤ k → (k ≡ i → ⊥) → g k ≡ f k) where
  dues_same : (n : ℕ) → n < i → dues g clock n ≡ dues f clock n
  dues_same zero l = refl
  dues_same (suc n) l =
      let e : g (suc n) ≡ f (suc n) = same (suc n) (omega arith) (λ q. omega arith) in
      let r : dues g clock n ≡ dues f clock n = dues_same n (omega arith) in
      λ j. cond (eqb (e j) clock) 1 0 + r j

  pub fewer : f i ≡ clock → clock < g i → (n : ℕ) → i ≤ n → dues g clock n < dues f clock n
  fewer was is zero l = absurd (omega arith)
  fewer was is (suc n) l = ⊎_elim
      (λ (e : i ≡ suc n).
      let fs : f (suc n) ≡ clock = subst (λ (k : ℕ). f k ≡ clock) e was in
      let gs : clock < g (suc n) = subst (λ (k : ℕ). clock < g k) e is in
      let a : cond {A = ℕ} (eqb (g (suc n)) clock) 1 0 ≡ 0 = cond-false (eqb (g (suc n)) clock) 1 0 (ne_eqb (g (suc n)) clock (λ q. omega arith)) in
      let b : cond {A = ℕ} (eqb (f (suc n)) clock) 1 0 ≡ 1 = cond-true (eqb (f (suc n)) clock) 1 0 (eq-eqb (f (suc n)) clock fs) in
      let r : dues g clock n ≡ dues f clock n = dues_same n (omega arith) in
      omega arith)
      (λ (ne : i ≡ suc n → ⊥).
      let e : cond {A = ℕ} (eqb (g (suc n)) clock) 1 0 ≡ cond {A = ℕ} (eqb (f (suc n)) clock) 1 0 = ap (λ (t : ℕ). cond (eqb t clock) 1 0) (same (suc n) (omega arith) (λ q. ne (sym q))) in
      let r : dues g clock n < dues f clock n = fewer was is n (omega arith) in
      omega arith)
      (cases_eq i (suc n))

module _ (rows : List Row) where
  -- the step of `releases` for task n + 1
  abbrev one : ℕ → State → State
  one n s = cond (due rows (suc n) s) (release rows (suc n) s) s

  -- where no task is due, nothing is released
  pub none_released : (n : ℕ) (s : State) → ((k : ℕ) → 1 ≤ k → k ≤ n → due rows k s ≡ false) → releases rows n s ≡ s
  none_released zero s h = refl
  none_released (suc n) s h =
      ap (one n) (none_released n s (λ k a b. h k a (omega arith)))
      ∙ cond-false (due rows (suc n) s) (release rows (suc n) s) s (h (suc n) (omega arith) (omega arith))

  -- up to the first task that is due, its job alone is released
  first_released : (i : ℕ) (s : State) → 1 ≤ i → due rows i s ≡ true → ((k : ℕ) → 1 ≤ k → k < i → due rows k s ≡ false)
      → releases rows i s ≡ release rows i s
  first_released zero s low d h = absurd (omega arith)
  first_released (suc n) s low d h =
      ap (one n) (none_released n s (λ k a b. h k a (omega arith)))
      ∙ cond-true (due rows (suc n) s) (release rows (suc n) s) s d

  on_from : (i : ℕ) (s r : State) → 1 ≤ i → releases rows i s ≡ r → releases rows i r ≡ r → (n : ℕ) → i ≤ n → releases rows n r ≡ releases rows n s
  on_from i s r low p q zero l = absurd (omega arith)
  on_from i s r low p q (suc n) l = ⊎_elim
      (λ (e : i ≡ suc n). ap (λ (k : ℕ). releases rows k r) (sym e) ∙ q ∙ sym p ∙ ap (λ (k : ℕ). releases rows k s) e)
      (λ (ne : i ≡ suc n → ⊥). ap (one n) (on_from i s r low p q n (omega arith)))
      (cases_eq i (suc n))

  module _ (i : ℕ) (s : State) (low : 1 ≤ i) (high : i ≤ length s.tasks) (period : 0 < (row_at i rows).period)
      (now : next_time rows s.tasks i ≡ s.clock) where
    later : s.clock < next_time rows (with_release i s.tasks) i
    later = omega (arith, time_renewed rows i s.tasks low high)

    -- what is left to release after the first task that is due makes the same state
    pub released_first : (n : ℕ) → i ≤ n → ((k : ℕ) → 1 ≤ k → k < i → s.clock < next_time rows s.tasks k)
        → releases rows n (release rows i s) ≡ releases rows n s
    released_first n within before =
        on_from i s (release rows i s) low
        (first_released i s low (eq-eqb (next_time rows s.tasks i) s.clock now)
        (λ k a b. ne_eqb (next_time rows s.tasks k) s.clock (λ e. omega (arith, before k a b))))
        (none_released i (release rows i s) (λ k a b. ne_eqb (next_time rows (with_release i s.tasks) k) s.clock (λ e. ⊎_elim
        (λ (q : k ≡ i). let z : next_time rows (with_release i s.tasks) i ≡ s.clock = subst (λ (m : ℕ). next_time rows (with_release i s.tasks) m ≡ s.clock) q e in omega (arith, later))
        (λ (ne : k ≡ i → ⊥). omega (arith, time_kept rows i s.tasks low k a ne, before k a (omega arith)))
        (cases_eq k i))))
        n within

    -- and fewer tasks are due then
    pub fewer_due : (n : ℕ) → i ≤ n → dues (next_time rows (with_release i s.tasks)) s.clock n < dues (next_time rows s.tasks) s.clock n
    fewer_due n within =
        fewer (next_time rows s.tasks) (next_time rows (with_release i s.tasks)) s.clock i low (time_kept rows i s.tasks low) now later n within
