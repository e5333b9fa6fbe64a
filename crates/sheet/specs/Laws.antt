-- What holds of sheets and tables as a whole.
use Rattle.std.specs.Prelude.{◌≡◌, ℕ, ◌<◌, ◌≤◌, true, List, [], ◌∷◌, length, take, replicate, Ok, Err, slice_index}
use Rattle.periods.specs.Periods.{period_of}
use Rattle.sheet.specs.declared.row.Row.{Row}
use Rattle.sheet.specs.declared.fault.Rule.TheVariants.{Code, Deadline}
use Rattle.sheet.specs.declared.fault.Fault.TheVariants.{Broken}
use Rattle.sheet.specs.declared.table.Table.{Table}
use Rattle.sheet.specs.Rows.{blank, lawful_after}
use Rattle.sheet.specs.Tables.{rows_of}
use Rattle.sheet.specs.Sheet.{sheet_of}
use Rattle.sheet.specs.Reading.{read_sheet}

-- each byte is below 256
abbrev pub Bytes : List ℕ → Type 0
Bytes bs = (k : ℕ) → slice_index bs k < 256

-- the sheet of 1 to 32 lawful rows says those rows
abbrev pub ReadsBack : Type 0
ReadsBack = (rows : List Row) → 1 ≤ length rows → length rows ≤ 32 → lawful_after 0 rows ≡ true → read_sheet (sheet_of rows) ≡ Ok rows

-- bytes that say rows are the sheet of those rows
abbrev pub WritesBack : Type 0
WritesBack = (bs : List ℕ) (rows : List Row) → Bytes bs → read_sheet bs ≡ Ok rows → sheet_of rows ≡ bs

-- of bytes past the longest sheet, 912 bytes, it does not matter how many are handed in: the fault is the same
abbrev pub LongerAlike : Type 0
LongerAlike = (bs : List ℕ) (n : ℕ) → 912 < n → n ≤ length bs → read_sheet (take n bs) ≡ read_sheet bs

-- what a sheet says is 1 to 32 lawful rows
abbrev pub SaysLawful : Type 0
SaysLawful = (bs : List ℕ) (rows : List Row) → read_sheet bs ≡ Ok rows → (1 ≤ length rows) × (length rows ≤ 32) × (lawful_after 0 rows ≡ true)

-- 1 to 32 lawful rows are the rows of a table
abbrev pub RowsHaveTable : Type 0
RowsHaveTable = (rows : List Row) → 1 ≤ length rows → length rows ≤ 32 → lawful_after 0 rows ≡ true → (t : Table) × (rows_of t ≡ rows)

-- tables of equal rows are equal, in each slot
abbrev pub RowsMakeTable : Type 0
RowsMakeTable = (s t : Table) → rows_of s ≡ rows_of t → (s.count ≡ t.count) × (s.slots ≡ t.slots)

-- the sheet of a new table, byte by byte
abbrev pub NewSheet : Type 0
NewSheet =
    sheet_of (blank ∷ []) ≡
    0 ∷ 1 ∷ 0 ∷ 16 ∷ 0 ∷ 0 ∷ 0 ∷ 0 ∷ 0 ∷ 10 ∷ 255 ∷ 80 ∷ 0 ∷ 0 ∷ 0 ∷ 44 ∷
    32 ∷ 32 ∷ 32 ∷ 32 ∷ 32 ∷ 32 ∷ 32 ∷ 32 ∷ 0 ∷ 0 ∷ 0 ∷ 0 ∷ 0 ∷ 0 ∷ 0 ∷ 1 ∷ 0 ∷ 0 ∷ 0 ∷ 1 ∷ 0 ∷ 0 ∷ 0 ∷ 0 ∷ 0 ∷ 1 ∷ 0 ∷ 0 ∷ []

-- a row of phase 0, execution 1 and hold 0
abbrev pub plain_row : (code deadline : ℕ) → Row
plain_row code deadline =
    record { label = replicate 8 32; phase = 0; period = period_of code; code = code; execution = 1; deadline = deadline; hold = 0 }

-- where the ranges of a row end, in sheets of one row
pub record RangeEnds : Type 0 where
  pub last_code : read_sheet (sheet_of (plain_row 240 1 ∷ [])) ≡ Ok (plain_row 240 1 ∷ [])
  pub past_last_code : read_sheet (sheet_of (plain_row 241 1 ∷ [])) ≡ Err (Broken Code 1)
  pub period_four : (plain_row 4 16).period ≡ 4
  pub longest_deadline : read_sheet (sheet_of (plain_row 4 16 ∷ [])) ≡ Ok (plain_row 4 16 ∷ [])
  pub past_longest_deadline : read_sheet (sheet_of (plain_row 4 17 ∷ [])) ≡ Err (Broken Deadline 1)
