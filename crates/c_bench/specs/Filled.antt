-- What a caller finds in the buffer that it lent.
use Rattle.std.specs.Prelude.{◌≡◌, ℕ, cond, List, length}
use Rattle.duty_log.specs.Written.{has_room, buffer_of}

-- the bytes were to go into a buffer that held `old`: it holds `new` now, and r is their number, or 0 where there was no room for all of them
pub record Filled (bytes : List ℕ) (r : ℕ) (old new : List ℕ) : Type 0 where
  pub count : r ≡ cond (has_room bytes old) (length bytes) 0
  pub buffer : new ≡ buffer_of bytes old
