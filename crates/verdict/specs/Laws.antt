-- What a verdict says of the rows, whatever they are.
use Rattle.std.specs.Prelude.{◌≡◌, ℕ, ◌^◌, ◌<◌, ◌≤◌, List, length}
use Rattle.sheet.specs.declared.row.Row.{Row}
use Rattle.verdict.specs.declared.answer.Verdict.TheVariants.{Admitted, FailsAt}
use Rattle.verdict.specs.Test.{asked_at, room_at, verdict_of}

-- at each row no more is asked than there is
abbrev pub AllPass : List Row → Type 0
AllPass rows = (k : ℕ) → 1 ≤ k → k ≤ length rows → asked_at k rows ≤ room_at k rows

-- at row k more is asked than there is, and at no row before it
pub record FirstFails (k : ℕ) (rows : List Row) : Type 0 where
  pub counted : 1 ≤ k
  pub stands : k ≤ length rows
  pub fails : room_at k rows < asked_at k rows
  pub before : (j : ℕ) → 1 ≤ j → j < k → asked_at j rows ≤ room_at j rows

-- rows are admitted exactly if all pass, and fail at row k exactly if that is the first that fails
pub record Exact (rows : List Row) : Type 0 where
  pub admitted : verdict_of rows ≡ Admitted → AllPass rows
  pub passing : AllPass rows → verdict_of rows ≡ Admitted
  pub refused : (k : ℕ) → verdict_of rows ≡ FailsAt k → FirstFails k rows
  pub failing : (k : ℕ) → FirstFails k rows → verdict_of rows ≡ FailsAt k

-- neither side of the test passes 10^14 at any row
abbrev pub Small : List Row → Type 0
Small rows = (k : ℕ) → 1 ≤ k → k ≤ length rows → (asked_at k rows < 10 ^ 14) × (room_at k rows < 10 ^ 14)
