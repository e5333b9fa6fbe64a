-- Lawful lists: of which task and number a job is, what a further job leaves lawful, and that 128 places are enough.
use Rattle.std.proofs.Common.{◌≡◌, ℕ, zero, suc, ◌+◌, ◌*◌, ◌<◌, ◌≤◌, Bool, true, false, cond, ◌&&◌, eqb, leb, List, [], ◌∷◌, length, count_by, sym, refl, ◌∙◌, subst, arith}
use mathlib.Core.Bool.{Bool-set}
use mathlib.Core.Logic.{∥∥₁_elim}
use mathlib.Core.HLevel.{Unit-prop, ×_prop}
use native.Mathlib.Bridge.{le_prop}
use Rattle.std.specs.List.{AllByRecursion}
use Rattle.std.proofs.lemmas.Bool.{and_from, and_parts, eq-eqb, eqb-true}
use Rattle.std.proofs.lemmas.Bool.Decides.{nat_tests}
use Rattle.ready.specs.declared.job.Job.{Job}
use Rattle.ready.specs.Order.{before}
use Rattle.ready.specs.Sorted.{placed, ordered, Sorted}
use Rattle.ready.specs.Waiting.{rest_of, is_job, of_task, stray, Lawful}
use Rattle.ready.proofs.Urgency.{before_one_way, not_before_chain}
use Rattle.ready.proofs.Orderings.{length_placed, all_placed, all_ordered, count_by_placed, count_by_ordered, sorted_placed, sorted_ordered}
use Rattle.ready.proofs.Counting.{count_by_cons}

-- Which job, and of which task.

-- what a read past the end would give
abbrev pub no_job : Job
no_job = record { key = 0; task = 0; number = 0; left = 0 }

pub is_that_job : (task number : ℕ) (j : Job) → j.task ≡ task → j.number ≡ number → is_job task number j ≡ true
is_that_job task number j p q = and_from (eqb j.task task) (eqb j.number number) (eq-eqb _ _ p) (eq-eqb _ _ q)

pub that_job : (task number : ℕ) (j : Job) → is_job task number j ≡ true → (j.task ≡ task) × (j.number ≡ number)
that_job task number j e =
    let both = and_parts (eqb j.task task) (eqb j.number number) e in
    (eqb-true j.task task both.0, eqb-true j.number number both.1)

pub known_task : (task : ℕ) → (task ≡ 0 → ⊥) → task ≤ 32 → stray task ≡ false
known_task task some most = grind (arith, nat_tests)

pub task_bounds : (task : ℕ) → stray task ≡ false → (1 ≤ task) × (task ≤ 32)
task_bounds task h = (grind (arith, nat_tests), grind (arith, nat_tests))

-- One more job.

-- no job twice
abbrev pub Once : List Job → Type 0
Once js = (task number : ℕ) → count_by (is_job task number) js ≤ 1

-- at most four jobs of a task
abbrev pub Four : List Job → Type 0
Four js = (task : ℕ) → count_by (of_task task) js ≤ 4

-- one more, where there were fewer than the most
one_more : (b : Bool) (n most : ℕ) → (b ≡ true → n < most) → n ≤ most → cond b 1 0 + n ≤ most
one_more true n most h l = omega (arith, h refl)
one_more false n most h l = omega arith

-- no refusal applies to the job
pub record Welcome (j : Job) (js : List Job) : Type 0 where
  pub known : stray j.task ≡ false
  pub new : count_by (is_job j.task j.number) js < 1
  pub few : count_by (of_task j.task) js < 4

-- ks has the jobs of js, and j
module _ (j : Job) (js ks : List Job) (adds : (p : Job → Bool) → count_by p ks ≡ cond (p j) 1 0 + count_by p js) (w : Welcome j js) where
  pub once_more : Once js → Once ks
  once_more once task number = rw (adds (is_job task number)) (one_more (is_job task number j) _ 1 (λ e. new_here (that_job task number j e)) (once task number))
    where
      new_here : (j.task ≡ task) × (j.number ≡ number) → count_by (is_job task number) js < 1
      new_here e = subst (λ n. count_by (is_job task n) js < 1) e.1 (subst (λ t. count_by (is_job t j.number) js < 1) e.0 w.new)

  pub four_more : Four js → Four ks
  four_more four task = rw (adds (of_task task)) (one_more (of_task task j) _ 4 (λ e. subst (λ t. count_by (of_task t) js < 4) (eqb-true j.task task e) w.few) (four task))

-- Lawful lists.

pub lawful_none : Lawful []
lawful_none = record { sorted = tt; known = tt; once = λ task number. omega arith; four = λ task. omega arith }

pub lawful_rest : (js : List Job) → Lawful js → Lawful (rest_of js)
lawful_rest [] h = h
lawful_rest (j ∷ js) h = record {
  sorted = h.sorted.1;
  known = h.known.1;
  once = λ task number. omega (arith, h.once task number, count_by_cons (is_job task number) j js);
  four = λ task. omega (arith, h.four task, count_by_cons (of_task task) j js);
}

pub lawful_placed : (j : Job) (js : List Job) → Lawful js → Welcome j js → Lawful (placed before j js)
lawful_placed j js h w = record {
  sorted = sorted_placed before before_one_way not_before_chain j js h.sorted;
  known = all_placed before (λ i. stray i.task ≡ false) j js w.known h.known;
  once = once_more j js (placed before j js) (λ p. count_by_placed before p j js) w h.once;
  four = four_more j js (placed before j js) (λ p. count_by_placed before p j js) w h.four;
}

-- the jobs of a list that is in no order
pub lawful_ordered : (js : List Job) → AllByRecursion (λ j. stray j.task ≡ false) js → Once js → Four js → Lawful (ordered before js)
lawful_ordered js known once four = record {
  sorted = sorted_ordered before before_one_way not_before_chain js;
  known = all_ordered before (λ j. stray j.task ≡ false) js known;
  once = λ task number. omega (arith, once task number, count_by_ordered before (is_job task number) js);
  four = λ task. omega (arith, four task, count_by_ordered before (of_task task) js);
}

-- At most 128.

-- the jobs of tasks 1 to n
abbrev of_tasks : ℕ → List Job → ℕ
of_tasks zero js = 0
of_tasks (suc n) js = count_by (of_task (suc n)) js + of_tasks n js

within : (n : ℕ) (j : Job) → ℕ
within n j = cond (leb 1 j.task && leb j.task n) 1 0

within_more : (n : ℕ) (j : Job) → within (suc n) j ≡ cond (of_task (suc n) j) 1 0 + within n j
unfolding within
within_more n j = grind (arith, nat_tests)

of_tasks_none : (n : ℕ) → of_tasks n [] ≡ 0
of_tasks_none zero = refl
of_tasks_none (suc n) = omega (arith, of_tasks_none n)

of_tasks_cons : (n : ℕ) (j : Job) (js : List Job) → of_tasks n (j ∷ js) ≡ within n j + of_tasks n js
unfolding within
of_tasks_cons zero j js = grind (arith, nat_tests)
of_tasks_cons (suc n) j js = omega (arith, of_tasks_cons n j js, within_more n j, count_by_cons (of_task (suc n)) j js)

known_within : (j : Job) → stray j.task ≡ false → within 32 j ≡ 1
unfolding within
known_within j h = grind (arith, nat_tests)

-- each job is of one of the tasks 1 to 32
length_of_tasks : (js : List Job) → AllByRecursion (λ j. stray j.task ≡ false) js → length js ≡ of_tasks 32 js
length_of_tasks [] k = sym (of_tasks_none 32)
length_of_tasks (j ∷ js) k =
    let here = known_within j k.0 in
    let rest = length_of_tasks js k.1 in
    let all = of_tasks_cons 32 j js in
    let more : suc (length js) ≡ within 32 j + of_tasks 32 js = omega arith in
    more ∙ sym all

of_tasks_most : (n : ℕ) (js : List Job) → Four js → of_tasks n js ≤ 4 * n
of_tasks_most zero js h = omega arith
of_tasks_most (suc n) js h = omega (arith, h (suc n), of_tasks_most n js h)

-- four jobs of each of 32 tasks
pub lawful_most : (js : List Job) → Lawful js → length js ≤ 128
lawful_most js h =
    let all = length_of_tasks js h.known in
    let few = of_tasks_most 32 js h.four in
    omega arith

-- a job that no refusal applies to finds room
pub room : (j : Job) (js : List Job) → Lawful js → Welcome j js → length js < 128
room j js h w = omega (arith, lawful_most (placed before j js) (lawful_placed j js h w), length_placed before j js)

-- A lawful list, out of the truncation in which a ghost field holds it.

all_prop : {X : Type 0} (f : X → Bool) (xs : List X) → IsProp (AllByRecursion (λ x. f x ≡ false) xs)
all_prop f [] = Unit-prop
all_prop f (x ∷ xs) = ×_prop (Bool-set (f x) false) (all_prop f xs)

sorted_prop : {X : Type 0} (ahead : X → X → Bool) (xs : List X) → IsProp (Sorted ahead xs)
sorted_prop ahead [] = Unit-prop
sorted_prop ahead (x ∷ xs) = ×_prop (all_prop (λ y. ahead y x) xs) (sorted_prop ahead xs)

pub lawful_had : (js : List Job) → ∥ Lawful js ∥₁ → Lawful js
lawful_had js h = record {
  sorted = ∥∥₁_elim h (sorted_prop before js) (λ l. l.sorted);
  known = ∥∥₁_elim h (all_prop (λ j. stray j.task) js) (λ l. l.known);
  once = λ task number. ∥∥₁_elim h le_prop (λ l. l.once task number);
  four = λ task. ∥∥₁_elim h le_prop (λ l. l.four task);
}
