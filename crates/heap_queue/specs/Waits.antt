-- The rules of the waiting list, kept in the slots of a heap.
use Rattle.std.specs.Prelude.{◌≡◌, ◌+◌, ◌≤◌, Bool, false, cond, List, ◌∷◌, take, count_by, refl}
use Rattle.std.proofs.Common.{◌∙◌, arith}
use Rattle.std.specs.List.Sorted.{IsPermutation}
use Rattle.std.proofs.lemmas.List.Sorted.{sum_by-IsPermutation}
use Rattle.ready.specs.declared.job.Job.{Job}
use Rattle.ready.specs.Order.{before}
use Rattle.ready.specs.Sorted.{ordered}
use Rattle.ready.specs.Waiting.{stray, is_job, Lawful}
use Rattle.ready.proofs.Orderings.{count_by_ordered}
use Rattle.ready.proofs.Counting.{count_by_cons, count_by_no, none_passes, one_passes}
use Rattle.ready.proofs.Lawful.{Once, is_that_job, lawful_ordered}
use Rattle.heap.specs.Heaps.{Distinct}
use Rattle.heap.specs.Jobs.{job_fields}
use Rattle.heap_queue.specs.declared.queue.HeapQueue.{HeapQueue}

-- the slots in order are a lawful list
pub lawful_slots : (q : HeapQueue) → Lawful (ordered before (take q.len q.slots))
lawful_slots q = let xs = take q.len q.slots in lawful_ordered xs (none_passes (λ j. stray j.task) xs q.known) q.once q.four

-- jobs that agree in their order fields are the same
pub distinct : (xs : List Job) → Once xs → Distinct job_fields xs
distinct xs once a b ha hb e =
    let p : a.task ≡ b.task = cc in
    let q : a.number ≡ b.number = cc in
    one_passes (is_job b.task b.number) xs (once b.task b.number) a b ha.0 hb.0 ha.1 ha.2 hb.1 hb.2 (is_that_job b.task b.number a p q) (is_that_job b.task b.number b refl refl)

-- counts after a job was added
module _ (j : Job) (xs ys : List Job) (s : IsPermutation (j ∷ xs) ys) where
  pub one_added : (p : Job → Bool) → count_by p ys ≡ cond (p j) 1 0 + count_by p (ordered before xs)
  one_added p = omega (arith, sum_by-IsPermutation (λ i. cond (p i) 1 0) (j ∷ xs) ys s, count_by_cons p j xs, count_by_ordered before p xs)

  pub known_added : stray j.task ≡ false → count_by (λ i. stray i.task) xs ≡ 0 → count_by (λ i. stray i.task) ys ≡ 0
  known_added z h = sum_by-IsPermutation (λ i. cond (stray i.task) 1 0) (j ∷ xs) ys s ∙ count_by_no (λ i. stray i.task) j xs z ∙ h

-- and after one was removed
pub fewer : (p : Job → Bool) (j : Job) (xs ys : List Job) → IsPermutation xs (j ∷ ys) → count_by p ys ≤ count_by p xs
fewer p j xs ys s = omega (arith, sum_by-IsPermutation (λ i. cond (p i) 1 0) xs (j ∷ ys) s, count_by_cons p j ys)
