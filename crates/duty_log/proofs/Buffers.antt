-- What a buffer holds after a write, where there is room.
use Rattle.std.proofs.Common.{◌≡◌, ℕ, ◌≤◌, cond, List, ◌++◌, length, take, drop, Ok, Err, Result, refl, ap, ◌∙◌, le-leb}
use Rattle.std.proofs.lemmas.List.{take_at}
use Rattle.duty_log.specs.declared.refusal.LogRefusal.{LogRefusal}
use Rattle.duty_log.specs.declared.refusal.LogRefusal.TheVariants.{ShortBuffer}
use Rattle.duty_log.specs.Written.{Written}

-- where there is room, the answer is the number of bytes
pub answer_with_room : {bytes old new : List ℕ} {r : Result ℕ LogRefusal} → Written bytes r old new → length bytes ≤ length old → r ≡ Ok (length bytes)
answer_with_room {bytes = bytes} {old = old} w h = w.answer ∙ ap (λ b. cond b (Ok (length bytes)) (Err ShortBuffer)) (le-leb (length bytes) (length old) h)

-- where there is room, the bytes stand at the front of the buffer
pub front_with_room : {bytes old new : List ℕ} {r : Result ℕ LogRefusal} → Written bytes r old new → length bytes ≤ length old → take (length bytes) new ≡ bytes
front_with_room {bytes = bytes} {old = old} w h =
    ap (take (length bytes)) (w.buffer ∙ ap (λ b. cond b (bytes ++ drop (length bytes) old) old) (le-leb (length bytes) (length old) h))
    ∙ take_at bytes (drop (length bytes) old) (length bytes) refl
