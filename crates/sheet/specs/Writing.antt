-- What writing into a buffer leaves there.
use Rattle.std.specs.Prelude.{◌≡◌, ℕ, ◌+◌, Bool, true, false, List, ◌++◌, length, take, drop, Ok, Err, Result, nat_le}
use Rattle.sheet.specs.declared.refusal.WriteRefusal.{WriteRefusal}
use Rattle.sheet.specs.declared.refusal.WriteRefusal.TheVariants.{ShortBuffer}

-- bytes put over what stands from a place on; every other byte is as it was
abbrev pub put : List ℕ → ℕ → List ℕ → List ℕ
put old at bytes = take at old ++ (bytes ++ drop (at + length bytes) old)

-- what a call of `write` answers and leaves, by whether the bytes have room
abbrev pub Written : Bool → List ℕ → Result ℕ WriteRefusal → List ℕ → List ℕ → Type 0
Written true bytes r old new = (r ≡ Ok (length bytes)) × (new ≡ put old 0 bytes)
Written false bytes r old new = (r ≡ Err ShortBuffer) × (new ≡ old)

-- just those bytes are filled and their number is given; in a shorter buffer none is altered
abbrev pub Writes : List ℕ → Result ℕ WriteRefusal → List ℕ → List ℕ → Type 0
Writes bytes r old new = Written (nat_le (length bytes) (length old)) bytes r old new
