-- What writing bytes into a lent buffer gives.
use Rattle.std.specs.Prelude.{◌≡◌, ℕ, Bool, cond, List, ◌++◌, length, drop, Ok, Err, Result, nat_le}
use Rattle.duty_log.specs.declared.refusal.LogRefusal.{LogRefusal}
use Rattle.duty_log.specs.declared.refusal.LogRefusal.TheVariants.{ShortBuffer}

-- the buffer is at least as long as the bytes
abbrev pub has_room : List ℕ → List ℕ → Bool
has_room bytes old = nat_le (length bytes) (length old)

-- the answer: how many bytes were written, or the refusal where there is no room for all of them
abbrev pub answer_of : List ℕ → List ℕ → Result ℕ LogRefusal
answer_of bytes old = cond (has_room bytes old) (Ok (length bytes)) (Err ShortBuffer)

-- the buffer afterwards: the bytes at its front and the rest as it was, or all as it was
abbrev pub buffer_of : List ℕ → List ℕ → List ℕ
buffer_of bytes old = cond (has_room bytes old) (bytes ++ drop (length bytes) old) old

-- the bytes were to go into a buffer that held `old`: it holds `new` now, and r is the answer
pub record Written (bytes : List ℕ) (r : Result ℕ LogRefusal) (old new : List ℕ) : Type 0 where
  pub answer : r ≡ answer_of bytes old
  pub buffer : new ≡ buffer_of bytes old
