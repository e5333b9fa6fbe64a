-- What a put answers, by the first refusal that applies, and the list that it leaves.
use Rattle.std.proofs.Common.{◌≡◌, ℕ, ◌+◌, ◌<◌, ◌≤◌, Bool, true, false, cond, leb, List, Ok, Err, sum_by, count_by, Result, sym, refl, ap, ◌∙◌, arith}
use Rattle.std.specs.List.{AllByRecursion}
use Rattle.std.proofs.lemmas.Bool.{cond_both, le-leb, lt-leb, leb-false}
use Rattle.ready.specs.declared.job.Job.{Job}
use Rattle.ready.specs.declared.refusal.PutRefusal.{PutRefusal}
use Rattle.ready.specs.declared.refusal.PutRefusal.TheVariants.{NoSuchTask, AlreadyWaits, FourWait}
use Rattle.ready.specs.Order.{before}
use Rattle.ready.specs.Sorted.{placed, Sorted}
use Rattle.ready.specs.Waiting.{is_job, of_task, stray, put_answer, put_by, put_list, Lawful}
use Rattle.ready.proofs.Urgency.{before_one_way, not_before_chain}
use Rattle.ready.proofs.Orderings.{all_placed, sum_by_placed, sorted_placed}
use Rattle.ready.proofs.Lawful.{Welcome, lawful_placed}

-- the answer as its three tests come out
abbrev answer : Bool → Bool → Bool → Result Unit PutRefusal
answer s w f = cond s (Err NoSuchTask) (cond w (Err AlreadyWaits) (cond f (Err FourWait) (Ok tt)))

ok_is_no_refusal : (r : PutRefusal) → ◌≡◌ {A = Result Unit PutRefusal} (Err r) (Ok tt) → ⊥
ok_is_no_refusal r e = let z : ◌≡◌ {A = ℕ} 0 1 = cc in omega arith

module _ (j : Job) (js : List Job) where
  -- the answer

  by_tests : (s w f : Bool) → stray j.task ≡ s → leb 1 (count_by (is_job j.task j.number) js) ≡ w → leb 4 (count_by (of_task j.task) js) ≡ f → put_answer j js ≡ answer s w f
  by_tests s w f a b c = λ k. answer (a k) (b k) (c k)

  pub answers_waits : stray j.task ≡ false → 1 ≤ count_by (is_job j.task j.number) js → put_answer j js ≡ Err AlreadyWaits
  answers_waits a b = by_tests false true _ a (le-leb 1 _ b) refl

  pub answers_four : stray j.task ≡ false → count_by (is_job j.task j.number) js < 1 → 4 ≤ count_by (of_task j.task) js → put_answer j js ≡ Err FourWait
  answers_four a b c = by_tests false false true a (lt-leb 1 _ b) (le-leb 4 _ c)

  pub answers_ok : Welcome j js → put_answer j js ≡ Ok tt
  answers_ok w = by_tests false false false w.known (lt-leb 1 _ w.new) (lt-leb 4 _ w.few)

  -- it counts, so it does not depend on the order of the jobs
  pub put_answer_counts : (us : List Job) → ((p : Job → Bool) → count_by p js ≡ count_by p us) → put_answer j us ≡ put_answer j js
  put_answer_counts us same = λ i. answer (stray j.task) (leb 1 (sym (same (is_job j.task j.number)) i)) (leb 4 (sym (same (of_task j.task)) i))

  pub welcome_where_ok : put_answer j js ≡ Ok tt → Welcome j js
  welcome_where_ok = by _ _ _ refl refl refl
    where
      by : (s w f : Bool) → stray j.task ≡ s → leb 1 (count_by (is_job j.task j.number) js) ≡ w → leb 4 (count_by (of_task j.task) js) ≡ f → answer s w f ≡ Ok tt → Welcome j js
      by true w f a b c e = absurd (ok_is_no_refusal NoSuchTask e)
      by false true f a b c e = absurd (ok_is_no_refusal AlreadyWaits e)
      by false false true a b c e = absurd (ok_is_no_refusal FourWait e)
      by false false false a b c e = record { known = a; new = leb-false 1 _ b; few = leb-false 4 _ c }

  -- the list

  pub put_refused : (r : PutRefusal) → put_answer j js ≡ Err r → put_list j js ≡ js
  put_refused r e = ap (λ a. put_by a j js) e

  pub put_placed : put_answer j js ≡ Ok tt → put_list j js ≡ placed before j js
  put_placed e = ap (λ a. put_by a j js) e

  -- what holds of the list with the job at its place and of the list as it was holds of the list after the put
  pub put_either : (P : List Job → Type 0) → P (placed before j js) → P js → P (put_list j js)
  put_either P with_it as_was = by (put_answer j js)
    where
      by : (r : Result Unit PutRefusal) → P (put_by r j js)
      by (Ok u) = with_it
      by (Err why) = as_was

  pub all_put : (P : Job → Type 0) → P j → AllByRecursion P js → AllByRecursion P (put_list j js)
  all_put P p a = put_either (AllByRecursion P) (all_placed before P j js p a) a

  pub sorted_put : Sorted before js → Sorted before (put_list j js)
  sorted_put s = put_either (Sorted before) (sorted_placed before before_one_way not_before_chain j js s) s

  pub sum_by_put_le : (f : Job → ℕ) → sum_by f (put_list j js) ≤ f j + sum_by f js
  sum_by_put_le f = put_either (λ ks. sum_by f ks ≤ f j + sum_by f js) (omega (arith, sum_by_placed before f j js)) (omega arith)

  pub sum_by_put : (f : Job → ℕ) → put_answer j js ≡ Ok tt → sum_by f (put_list j js) ≡ f j + sum_by f js
  sum_by_put f e = ap (sum_by f) (put_placed e) ∙ sum_by_placed before f j js

  pub count_by_put : (p : Job → Bool) → put_answer j js ≡ Ok tt → count_by p (put_list j js) ≡ cond (p j) 1 0 + count_by p js
  count_by_put p e = sum_by_put (λ k. cond (p k) 1 0) e

  -- a put leaves a lawful list
  pub lawful_put : Lawful js → Lawful (put_list j js)
  lawful_put h =
      cond_both (stray j.task) _ _ After (λ _. h) (λ known.
      cond_both (leb 1 (count_by (is_job j.task j.number) js)) _ _ After (λ _. h) (λ new.
      cond_both (leb 4 (count_by (of_task j.task) js)) _ _ After (λ _. h) (λ few.
      lawful_placed j js h (record { known = known; new = leb-false _ _ new; few = leb-false _ _ few }))))
    where
      After : Result Unit PutRefusal → Type 0
      After r = Lawful (put_by r j js)
