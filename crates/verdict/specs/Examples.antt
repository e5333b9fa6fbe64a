-- Tables with their verdicts reckoned by hand.
use Rattle.std.specs.Prelude.{◌≡◌, ℕ, true, List, [], ◌∷◌, replicate}
use Rattle.sheet.specs.declared.row.Row.{Row}
use Rattle.sheet.specs.Rows.{lawful_after}
use Rattle.verdict.specs.declared.answer.Verdict.TheVariants.{Admitted, FailsAt}
use Rattle.verdict.specs.Test.{asked_at, room_at, verdict_of, number_of}

-- a row with a blank label; a period up to 16 is its own code
abbrev pub row_of : (phase period execution deadline hold : ℕ) → Row
row_of f p e d h = record { label = replicate 8 32; phase = f; period = p; code = p; execution = e; deadline = d; hold = h }

-- two rows, of which the second may hold for h ticks
abbrev pub pair : ℕ → List Row
pair h = row_of 0 4 1 3 0 ∷ row_of 2 6 3 6 h ∷ []

-- with a hold of 1 both rows pass
pub record Passing : Type 0 where
  pub lawful : lawful_after 0 (pair 1) ≡ true
  pub asked_first : asked_at 1 (pair 1) ≡ 1441440
  pub room_first : room_at 1 (pair 1) ≡ 2162160
  pub asked_second : asked_at 2 (pair 1) ≡ 3423420
  pub room_second : room_at 2 (pair 1) ≡ 4324320
  pub answer : verdict_of (pair 1) ≡ Admitted

-- with a hold of 2 the first row asks for exactly what there is, and passes
pub record Exactly : Type 0 where
  pub lawful : lawful_after 0 (pair 2) ≡ true
  pub asked_first : asked_at 1 (pair 2) ≡ 2162160
  pub room_first : room_at 1 (pair 2) ≡ 2162160
  pub answer : verdict_of (pair 2) ≡ Admitted

-- with a hold of 3 the first row fails
pub record Blocked : Type 0 where
  pub lawful : lawful_after 0 (pair 3) ≡ true
  pub answer : verdict_of (pair 3) ≡ FailsAt 1

-- two rows that load more than the cycle has
abbrev pub heavy : List Row
heavy = row_of 0 4 2 2 0 ∷ row_of 0 4 3 4 0 ∷ []

-- they fail at the second
pub record Overloaded : Type 0 where
  pub lawful : lawful_after 0 heavy ≡ true
  pub answer : verdict_of heavy ≡ FailsAt 2

-- two rows with short deadlines, released in turn
abbrev pub staggered : List Row
staggered = row_of 0 4 2 2 0 ∷ row_of 2 4 2 2 0 ∷ []

-- they fail at the second, since the test does not look at phases
pub record Staggered : Type 0 where
  pub lawful : lawful_after 0 staggered ≡ true
  pub answer : verdict_of staggered ≡ FailsAt 2

-- three rows of which the later two may hold for 1 tick and for 2
abbrev pub triple : List Row
triple = row_of 0 4 1 3 0 ∷ row_of 0 8 2 8 1 ∷ row_of 0 12 2 12 2 ∷ []

-- the longer hold counts, and not the two together: the first row asks for exactly what there is
pub record Longer : Type 0 where
  pub lawful : lawful_after 0 triple ≡ true
  pub asked_first : asked_at 1 triple ≡ 2162160
  pub answer : verdict_of triple ≡ Admitted

-- verdicts as numbers
pub record Numbered : Type 0 where
  pub admitted : number_of (verdict_of (pair 1)) ≡ 0
  pub first : number_of (verdict_of (pair 3)) ≡ 1
  pub second : number_of (verdict_of heavy) ≡ 2
