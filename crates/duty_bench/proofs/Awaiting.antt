-- The releases to come: one for each task, in order.
use Rattle.std.proofs.Common.{◌≡◌, ℕ, zero, suc, ◌+◌, ◌-◌, ◌*◌, ◌<◌, ◌≤◌, Bool, true, false, cond, eqb, List, [], ◌∷◌, length, get_or, Some, None, Option, sym, refl, ap, ◌∙◌, subst, ⊎_elim, arith}
use Rattle.std.specs.List.{AllByRecursion}
use Rattle.std.proofs.ByRecursion.{All-weaker}
use Rattle.std.proofs.lemmas.Bool.{cases_eq, eqb-true, eqb-false}
use Rattle.std.proofs.lemmas.Bool.Decides.{nat_tests}
use Rattle.sheet.specs.declared.row.Row.{Row}
use Rattle.verdict.specs.Test.{row_at}
use Rattle.ready.specs.Sorted.{placed, ordered, Sorted}
use Rattle.ready.specs.Waiting.{first_of, rest_of}
use Rattle.ready.proofs.Orderings.{placed_foremost, all_ordered, all_from_ordered, sorted_ordered, placed_placed}
use Rattle.heap.specs.declared.release.Release.{Release}
use Rattle.heap.specs.declared.releases.Releases.{Releases}
use Rattle.heap.specs.Coming.{earlier}
use Rattle.heap.proofs.EntryKinds.{release_order}
use Rattle.heap.proofs.Sifting.{never}
use Rattle.rules.specs.declared.counts.TaskCounts.{TaskCounts}
use Rattle.rules.specs.declared.letter.Letter.{Letter}
use Rattle.rules.specs.State.{State, no_counts}
use Rattle.rules.specs.Tick.{Turn, nobody, runs, turn_of, one_done, event_at, after_turn, tick}
use Rattle.duty_bench.proofs.Updates.{given_tick, part_updated}
use Rattle.duty_bench.specs.Awaited.{next_time, one_each, Awaits, due_at}

-- What does not change.

same_times : (rows : List Row) (xs ys : List TaskCounts) → ((k : ℕ) → (get_or ys k no_counts).released ≡ (get_or xs k no_counts).released)
    → next_time rows ys ≡ next_time rows xs
same_times rows xs ys e j i = (row_at i rows).phase + e (i - 1) j * (row_at i rows).period

-- counts of released jobs that stay leave the releases to come
pub awaits_kept : (rows : List Row) (xs ys : List TaskCounts) (t : ℕ) (r : Releases)
    → ((k : ℕ) → (get_or ys k no_counts).released ≡ (get_or xs k no_counts).released) → Awaits rows xs t r → Awaits rows ys t r
awaits_kept rows xs ys t r k a = record {
  lawful = a.lawful;
  few = a.few;
  awaited = a.awaited ∙ ap (λ (f : ℕ → ℕ). ordered earlier (one_each f (length rows))) (sym (same_times rows xs ys k));
  none_before = λ i low high. subst (λ (f : ℕ → ℕ). t ≤ f i) (sym (same_times rows xs ys k)) (a.none_before i low high);
}

-- a tick leaves them, and none of those after its clock is before the next
module _ (rows : List Row) (l : Letter) where
  turn_released : (t : Turn) (s : State) (k : ℕ) → (get_or (after_turn rows l t s).tasks k no_counts).released ≡ (get_or s.tasks k no_counts).released
  turn_released nobody s k = refl
  turn_released (runs j holds js) s k = part_updated no_counts (given_tick (one_done (event_at rows l j holds))) (λ c. c.released) (λ c. refl) s.tasks (j.task - 1) k

  turn_clock : (t : Turn) (s : State) → (after_turn rows l t s).clock ≡ s.clock + 1
  turn_clock nobody s = refl
  turn_clock (runs j holds js) s = refl

  pub awaits_ticked : (s : State) (r : Releases) → Awaits rows s.tasks (s.clock + 1) r → Awaits rows (tick rows l s).state.tasks (tick rows l s).state.clock r
  awaits_ticked s r a =
      let t : Turn = turn_of s.hand s.waiting in
      subst (λ (c : ℕ). Awaits rows (after_turn rows l t s).tasks c r) (sym (turn_clock t s))
      (awaits_kept rows s.tasks (after_turn rows l t s).tasks (s.clock + 1) r (turn_released t s) a)

-- Lists in order.

same_release : (x y : Release) → earlier x y ≡ false → earlier y x ≡ false → x ≡ y
same_release x y p q =
    let t : x.time ≡ y.time = grind (arith, nat_tests) in
    let k : x.task ≡ y.task = grind (arith, nat_tests) in
    λ i. record { time = t i; task = k i }

swap : (x y : Release) (zs : List Release) → placed earlier x (placed earlier y zs) ≡ placed earlier y (placed earlier x zs)
swap x y zs = placed_placed earlier release_order.one_way release_order.chain x y (same_release x y) zs

not_earlier : (y x : Release) → earlier y x ≡ false → x.time ≤ y.time
not_earlier y x h = grind (arith, nat_tests)

-- One release for each task.

abbrev pub entry : (ℕ → ℕ) → ℕ → Release
entry f i = record { time = f i; task = i }

module _ (P : Release → Type 0) where
  all_one_each : (f : ℕ → ℕ) (n : ℕ) → ((i : ℕ) → 1 ≤ i → i ≤ n → P (entry f i)) → AllByRecursion P (one_each f n)
  all_one_each f zero h = tt
  all_one_each f (suc n) h = (h (suc n) (omega arith) (omega arith), all_one_each f n (λ i l m. h i l (omega arith)))

  at_one_each : (f : ℕ → ℕ) (n : ℕ) → AllByRecursion P (one_each f n) → (i : ℕ) → 1 ≤ i → i ≤ n → P (entry f i)
  at_one_each f zero h i l m = absurd (omega arith)
  at_one_each f (suc n) h i l m = ⊎_elim
      (λ (e : i ≡ suc n). subst (λ (k : ℕ). P (entry f k)) (sym e) h.0)
      (λ (ne : i ≡ suc n → ⊥). at_one_each f n h.1 i l (omega arith))
      (cases_eq i (suc n))

pub length_one_each : (f : ℕ → ℕ) (n : ℕ) → length (one_each f n) ≡ n
length_one_each f zero = refl
length_one_each f (suc n) = ap suc (length_one_each f n)

pub same_one_each : (f g : ℕ → ℕ) (n : ℕ) → ((i : ℕ) → 1 ≤ i → i ≤ n → g i ≡ f i) → one_each g n ≡ one_each f n
same_one_each f g zero h = refl
same_one_each f g (suc n) h =
    let e : g (suc n) ≡ f (suc n) = h (suc n) (omega arith) (omega arith) in
    let r : one_each g n ≡ one_each f n = same_one_each f g n (λ i l m. h i l (omega arith)) in
    λ j. record { time = e j; task = suc n } ∷ r j

-- the time of one task changes from f to g
module _ (f g : ℕ → ℕ) (i : ℕ) (low : 1 ≤ i) (same : (k : ℕ) → 1 ≤ k → (k ≡ i → ⊥) → g k ≡ f k) where
  replaced : (n : ℕ) → i ≤ n
      → placed earlier (entry f i) (ordered earlier (one_each g n)) ≡ placed earlier (entry g i) (ordered earlier (one_each f n))
  replaced zero l = absurd (omega arith)
  replaced (suc n) l = ⊎_elim
      (λ (e : i ≡ suc n).
      let others : one_each g n ≡ one_each f n = same_one_each f g n (λ k a b. same k a (λ q. omega arith)) in
      swap (entry f i) (entry g (suc n)) (ordered earlier (one_each g n))
      ∙ (λ j. placed earlier (entry g (sym e j)) (placed earlier (entry f (e j)) (ordered earlier (others j)))))
      (λ (ne : i ≡ suc n → ⊥).
      let last : g (suc n) ≡ f (suc n) = same (suc n) (omega arith) (λ q. ne (sym q)) in
      swap (entry f i) (entry g (suc n)) (ordered earlier (one_each g n))
      ∙ ap (placed earlier (entry g (suc n))) (replaced n (omega arith))
      ∙ swap (entry g (suc n)) (entry g i) (ordered earlier (one_each f n))
      ∙ (λ j. placed earlier (entry g i) (placed earlier (record { time = last j; task = suc n }) (ordered earlier (one_each f n)))))
      (cases_eq i (suc n))

  -- the first release was of that task: a later one takes its place
  pub renewed : (n : ℕ) (rest : List Release) → i ≤ n → f i < g i → ordered earlier (one_each f n) ≡ entry f i ∷ rest
      → placed earlier (entry g i) rest ≡ ordered earlier (one_each g n)
  renewed n rest high later e =
      let P : Release → Type 0 = λ y. earlier y (entry f i) ≡ false in
      let sorted : Sorted earlier (entry f i ∷ rest) = subst (Sorted earlier) e (sorted_ordered earlier release_order.one_way release_order.chain (one_each f n)) in
      let before : AllByRecursion P (one_each f n) = all_from_ordered earlier P (one_each f n) (subst (AllByRecursion P) (sym e) (never earlier release_order (entry f i), sorted.0)) in
      let after : AllByRecursion P (one_each g n) = all_one_each P g n (λ k a b. ⊎_elim
      (λ (q : k ≡ i). subst (λ (m : ℕ). P (entry g m)) (sym q) (turned (entry f i) (entry g i) later))
      (λ (ne : k ≡ i → ⊥). subst (λ (t : ℕ). P (record { time = t; task = k })) (sym (same k a ne)) (at_one_each P f n before k a b))
      (cases_eq k i)) in
      let front : earlier (entry f i) (entry g i) ≡ true = in_front (entry f i) (entry g i) later in
      sym (ap rest_of (
      sym (placed_foremost earlier (entry f i) (ordered earlier (one_each g n)) (all_ordered earlier P (one_each g n) after))
      ∙ replaced n high
      ∙ ap (placed earlier (entry g i)) e
      ∙ ap (λ (b : Bool). cond b (entry f i ∷ placed earlier (entry g i) rest) (entry g i ∷ entry f i ∷ rest)) front))
    where
      turned : (x y : Release) → x.time < y.time → earlier y x ≡ false
      turned x y h = grind (arith, nat_tests)

      in_front : (x y : Release) → x.time < y.time → earlier x y ≡ true
      in_front x y h = grind (arith, nat_tests)

-- The first release.

split_by : (x : Release) (xs : List Release) (clock i : ℕ) (b : Bool) → eqb x.time clock ≡ b → cond {A = Option ℕ} b (Some x.task) None ≡ Some i
    → x ∷ xs ≡ record { time = clock; task = i } ∷ xs
split_by x xs clock i true t e =
    let p : x.time ≡ clock = eqb-true x.time clock t in
    let q : x.task ≡ i = cc in
    λ j. record { time = p j; task = q j } ∷ xs
split_by x xs clock i false t e = let z : ◌≡◌ {A = ℕ} 0 1 = cc in absurd (omega arith)

split : (xs : List Release) (clock i : ℕ) → due_at clock (first_of xs) ≡ Some i → xs ≡ record { time = clock; task = i } ∷ rest_of xs
split [] clock i e = let z : ◌≡◌ {A = ℕ} 0 1 = cc in absurd (omega arith)
split (x ∷ xs) clock i e = split_by x xs clock i (eqb x.time clock) refl e

not_due_by : (x : Release) (clock : ℕ) (b : Bool) → eqb x.time clock ≡ b → cond {A = Option ℕ} b (Some x.task) None ≡ None → x.time ≡ clock → ⊥
not_due_by x clock true t e q = let z : ◌≡◌ {A = ℕ} 0 1 = cc in omega arith
not_due_by x clock false t e q = eqb-false x.time clock t q

later_all : (clock : ℕ) (xs : List Release) → Sorted earlier xs → AllByRecursion (λ r. clock ≤ r.time) xs → due_at clock (first_of xs) ≡ None
    → AllByRecursion (λ r. clock < r.time) xs
later_all clock [] s a e = tt
later_all clock (x ∷ xs) s a e =
    let ne : x.time ≡ clock → ⊥ = not_due_by x clock (eqb x.time clock) refl e in
    let first : clock ≤ x.time = a.0 in
    let late : clock < x.time = omega arith in
    (late, All-weaker (λ y. earlier y x ≡ false) (λ y. clock < y.time) (λ y h. omega (arith, not_earlier y x h)) xs s.0)

-- what the first release says where it is at the clock
pub record First (f : ℕ → ℕ) (n clock i : ℕ) : Type 0 where
  pub low : 1 ≤ i
  pub high : i ≤ n
  pub now : f i ≡ clock
  pub before : (k : ℕ) → 1 ≤ k → k < i → clock < f k
  pub list : ordered earlier (one_each f n) ≡ entry f i ∷ rest_of (ordered earlier (one_each f n))

module _ (f : ℕ → ℕ) (n clock : ℕ) (early : (k : ℕ) → 1 ≤ k → k ≤ n → clock ≤ f k) where
  past : (k i : ℕ) → earlier (entry f k) (record { time = clock; task = i }) ≡ false → clock ≤ f k → k < i → clock < f k
  past k i h l m = grind (arith, nat_tests)

  pub first_is : (i : ℕ) → due_at clock (first_of (ordered earlier (one_each f n))) ≡ Some i → First f n clock i
  first_is i e =
      let xs : List Release = ordered earlier (one_each f n) in
      let x : Release = record { time = clock; task = i } in
      let s : xs ≡ x ∷ rest_of xs = split xs clock i e in
      let F : Release → Type 0 = λ r. (1 ≤ r.task) × (r.task ≤ n) × (f r.task ≡ r.time) in
      let P : Release → Type 0 = λ y. earlier y x ≡ false in
      let known : F x = (subst (AllByRecursion F) s (all_ordered earlier F (one_each f n) (all_one_each F f n (λ k a b. (a, b, refl))))).0 in
      let sorted : Sorted earlier (x ∷ rest_of xs) = subst (Sorted earlier) s (sorted_ordered earlier release_order.one_way release_order.chain (one_each f n)) in
      let least : AllByRecursion P (one_each f n) = all_from_ordered earlier P (one_each f n) (subst (AllByRecursion P) (sym s) (never earlier release_order x, sorted.0)) in
      record {
        low = known.0;
        high = known.1;
        now = known.2;
        before = λ k a b. past k i (at_one_each P f n least k a (omega (arith, known.1))) (early k a (omega (arith, known.1))) b;
        list = s ∙ ap (λ (t : ℕ). record { time = t; task = i } ∷ rest_of xs) (sym known.2);
      }

  -- where the first release is not at the clock, none is
  pub none_due : due_at clock (first_of (ordered earlier (one_each f n))) ≡ None → (k : ℕ) → 1 ≤ k → k ≤ n → clock < f k
  none_due e =
      let E : Release → Type 0 = λ r. clock ≤ r.time in
      let L : Release → Type 0 = λ r. clock < r.time in
      at_one_each L f n (all_from_ordered earlier L (one_each f n) (later_all clock (ordered earlier (one_each f n))
      (sorted_ordered earlier release_order.one_way release_order.chain (one_each f n)) (all_ordered earlier E (one_each f n) (all_one_each E f n early)) e))
