-- A put, as the code finds it: what it counts in the slots in use, that there is room, what the slots hold afterwards.
use Rattle.std.proofs.Common.{◌≡◌, ℕ, ◌+◌, ◌-◌, ◌≤◌, List, ◌++◌, reverse, length, take, drop, ap, ◌∙◌, arith}
use native.Mathlib.Nat.{sub-zero}
use Rattle.std.proofs.lemmas.List.{length-take-le, take_at, take-take}
use Rattle.ready.specs.declared.job.Job.{Job}
use Rattle.ready.specs.Order.{before}
use Rattle.ready.specs.Sorted.{placed}
use Rattle.ready.specs.Waiting.{put_answer, Lawful}
use Rattle.ready.proofs.Counting.{count_by_reverse}
use Rattle.ready.proofs.Lawful.{Welcome, room}
use Rattle.ready.proofs.Puts.{put_answer_counts}
use Rattle.plain_queue.specs.Slots.{last_first}
use Rattle.plain_queue.proofs.Ends.{length_reverse_take}

-- the slots in use give the answer of the list
pub slots_answer : (j : Job) (count : ℕ) (slots : List Job) → put_answer j (take count slots) ≡ put_answer j (last_first count slots)
slots_answer j count slots = put_answer_counts j (last_first count slots) (take count slots) (λ p. count_by_reverse p (take count slots))

-- there is a slot for a job that no refusal applies to
pub slot_left : (j : Job) (count : ℕ) (slots : List Job) → Lawful (last_first count slots) → count ≤ length slots → Welcome j (last_first count slots) → count + 1 ≤ 128
slot_left j count slots lawful within w = omega (arith, room j (last_first count slots) lawful w, length_reverse_take count slots within)

-- the list after the job was placed in the slots in use and the next one
pub put_slots : (j : Job) (count : ℕ) (slots placed_in : List Job) → count + 1 ≤ length slots → let part = take (count + 1 - 0) slots in length placed_in ≡ length part → reverse placed_in ≡ placed before j (reverse (take (length part - 1) part)) → last_first (count + 1) (placed_in ++ drop (count + 1 - 0) slots) ≡ placed before j (last_first count slots)
put_slots j count slots new within long is =
    let part = take (count + 1 - 0) slots in
    let part_is : part ≡ take (count + 1) slots = ap (λ n. take n slots) (sub-zero (count + 1)) in
    let part_long : length part ≡ count + 1 = ap length part_is ∙ length-take-le (count + 1) slots within in
    let last : length part - 1 ≡ count = omega arith in
    let le : count ≤ count + 1 = omega arith in
    let old : take (length part - 1) part ≡ take count slots = ap (λ n. take n part) last ∙ ap (take count) part_is ∙ take-take count (count + 1) slots le in
    ap reverse (take_at new (drop (count + 1 - 0) slots) (count + 1) (long ∙ part_long)) ∙ is ∙ ap (λ l. placed before j (reverse l)) old
