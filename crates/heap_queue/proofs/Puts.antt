-- A put, as the code finds it in the slots in use, and that there is room.
use Rattle.std.proofs.Common.{◌≡◌, ℕ, ◌<◌, true, cond, ◌&&◌, ltb, take, Ok, Err, ap, arith}
use Rattle.std.proofs.lemmas.List.{length-take-le}
use Rattle.std.proofs.lemmas.Bool.Decides.{nat_tests}
use Rattle.ready.specs.declared.job.Job.{Job}
use Rattle.ready.specs.Order.{before}
use Rattle.ready.specs.Sorted.{ordered}
use Rattle.ready.proofs.Orderings.{length_ordered, count_by_ordered}
use Rattle.ready.specs.Waiting.{put_answer}
use Rattle.ready.proofs.Lawful.{Welcome, room}
use Rattle.ready.proofs.Puts.{put_answer_counts}
use Rattle.heap.specs.declared.slots.HeapRefusal.{HeapRefusal}
use Rattle.heap.specs.declared.slots.HeapRefusal.TheVariants.{Full}
use Rattle.heap.specs.Heaps.{add_answer}
use Rattle.heap_queue.specs.declared.queue.HeapQueue.{HeapQueue}
use Rattle.heap_queue.specs.Waits.{lawful_slots}

module _ (q : HeapQueue) where
  -- the slots in use give the answer of the list
  pub slots_answer : (j : Job) → put_answer j (take q.len q.slots) ≡ put_answer j (ordered before (take q.len q.slots))
  slots_answer j = let xs = take q.len q.slots in put_answer_counts j (ordered before xs) xs (λ p. count_by_ordered before p xs)

  -- there is a slot for a job that no refusal applies to
  pub slot_left : (j : Job) → Welcome j (ordered before (take q.len q.slots)) → q.len < 128
  slot_left j w =
      let xs = take q.len q.slots in
      omega (arith, room j (ordered before xs) (lawful_slots q) w, length_ordered before xs, length-take-le q.len q.slots (omega (arith, q.whole, q.within)))

-- and a heap with a free slot takes it
pub never_full : (slots len : ℕ) (x : HeapRefusal) → slots ≡ 128 → len < 128 → Err x ≡ add_answer 128 slots len → ⊥
never_full slots len x a b e =
    let free : (ltb len 128 && ltb len slots) ≡ true = grind (arith, nat_tests) in
    let taken : add_answer 128 slots len ≡ Ok tt = ap (λ t. cond t (Ok tt) (Err Full)) free in
    let z : ◌≡◌ {A = ℕ} 0 1 = cc in
    omega arith
