-- Sheets and faults by example, which the checker computes.
use Rattle.std.specs.Prelude.{◌≡◌, ℕ, List, [], ◌∷◌, map, replicate, Some, None, Ok, Err, Result}
use Rattle.periods.specs.Periods.{period_of}
use Rattle.sheet.specs.declared.row.Row.{Row}
use Rattle.sheet.specs.declared.fault.Rule.TheVariants.{Text, Code, Deadline, Phase, Execution, Hold}
use Rattle.sheet.specs.declared.fault.Fault.{Fault}
use Rattle.sheet.specs.declared.fault.Fault.TheVariants.{Short, RowCount, Header, Length, Broken}
use Rattle.sheet.specs.declared.refusal.WriteRefusal.TheVariants.{ShortBuffer}
use Rattle.sheet.specs.Rows.{blank}
use Rattle.sheet.specs.Sheet.{header_bytes, sheet_of}
use Rattle.sheet.specs.Reading.{read_sheet}
use Rattle.sheet.specs.Writing.{put, Writes}
use Rattle.sheet.specs.Faults.{number_of, layer_of, layer_number, row_of_fault, refusal_number}

-- a row whose label is that byte and seven spaces
abbrev pub row_with : (byte phase code execution deadline hold : ℕ) → Row
row_with b f c e d h =
    record { label = b ∷ replicate 7 32; phase = f; period = period_of c; code = c; execution = e; deadline = d; hold = h }

-- what the sheet of a single row says
abbrev pub said : Row → Result (List Row) Fault
said r = read_sheet (sheet_of (r ∷ []))

-- what the sheet of a new table says, where that byte stands at that place
abbrev pub said_with : ℕ → ℕ → Result (List Row) Fault
said_with place byte = read_sheet (put (sheet_of (blank ∷ [])) place (byte ∷ []))

-- where the ranges of a row end
pub record RowEdges : Type 0 where
  pub greatest : said (row_with 126 720720 240 720720 2882880 720720) ≡ Ok (row_with 126 720720 240 720720 2882880 720720 ∷ [])
  pub least : said blank ≡ Ok (blank ∷ [])
  pub label_low : said (row_with 31 0 4 1 4 0) ≡ Err (Broken Text 1)
  pub label_high : said (row_with 127 0 4 1 4 0) ≡ Err (Broken Text 1)
  pub label_last : said_with 23 127 ≡ Err (Broken Text 1)
  pub closing_first : said_with 42 1 ≡ Err (Broken Text 1)
  pub closing_last : said_with 43 1 ≡ Err (Broken Text 1)
  pub code : said (row_with 32 0 0 1 1 0) ≡ Err (Broken Code 1)
  pub no_deadline : said (row_with 32 0 4 1 0 0) ≡ Err (Broken Deadline 1)
  pub falling : read_sheet (sheet_of (row_with 32 0 4 1 4 0 ∷ row_with 32 0 4 1 3 0 ∷ [])) ≡ Err (Broken Deadline 2)
  pub level : read_sheet (sheet_of (row_with 32 0 4 1 4 0 ∷ row_with 32 0 4 1 4 0 ∷ [])) ≡ Ok (row_with 32 0 4 1 4 0 ∷ row_with 32 0 4 1 4 0 ∷ [])
  pub phase : said (row_with 32 720721 4 1 4 0) ≡ Err (Broken Phase 1)
  pub past_a_period : said (row_with 32 720720 1 1 1 0) ≡ Ok (row_with 32 720720 1 1 1 0 ∷ [])
  pub no_execution : said (row_with 32 0 4 0 4 0) ≡ Err (Broken Execution 1)
  pub past_period : said (row_with 32 0 4 5 8 0) ≡ Err (Broken Execution 1)
  pub past_deadline : said (row_with 32 0 4 3 2 0) ≡ Err (Broken Execution 1)
  pub hold : said (row_with 32 0 4 1 4 2) ≡ Err (Broken Hold 1)

-- of several faults the first in order is said
pub record FaultsInOrder : Type 0 where
  pub short : read_sheet (replicate 15 0) ≡ Err Short
  pub no_rows : read_sheet (replicate 16 0) ≡ Err RowCount
  pub many_rows : read_sheet (header_bytes 33) ≡ Err RowCount
  pub header : read_sheet (put (header_bytes 1) 3 (17 ∷ [])) ≡ Err Header
  pub length_field : said_with 15 45 ≡ Err Header
  pub length : read_sheet (header_bytes 1) ≡ Err Length
  pub closing : read_sheet (put (sheet_of (row_with 32 720721 0 0 0 1 ∷ [])) 43 (1 ∷ [])) ≡ Err (Broken Text 1)
  pub text : said (row_with 31 720721 0 0 0 1) ≡ Err (Broken Text 1)
  pub code : said (row_with 32 720721 0 0 0 1) ≡ Err (Broken Code 1)
  pub deadline : said (row_with 32 720721 4 0 0 1) ≡ Err (Broken Deadline 1)
  pub phase : said (row_with 32 720721 4 0 4 1) ≡ Err (Broken Phase 1)
  pub execution : said (row_with 32 0 4 0 4 1) ≡ Err (Broken Execution 1)
  pub first_row : read_sheet (sheet_of (row_with 32 0 4 1 4 2 ∷ row_with 31 0 4 1 4 0 ∷ [])) ≡ Err (Broken Hold 1)

-- a fault of each kind
abbrev pub all_faults : List Fault
all_faults =
    Short ∷ RowCount ∷ Header ∷ Length ∷ Broken Text 7 ∷ Broken Code 7 ∷ Broken Deadline 7 ∷ Broken Phase 7 ∷ Broken Execution 7 ∷ Broken Hold 7 ∷ []

-- their numbers, layers and rows
pub record Numbered : Type 0 where
  pub numbers : map number_of all_faults ≡ 1 ∷ 2 ∷ 3 ∷ 4 ∷ 5 ∷ 6 ∷ 7 ∷ 8 ∷ 9 ∷ 10 ∷ []
  pub layers : map (λ f. layer_number (layer_of f)) all_faults ≡ 1 ∷ 2 ∷ 2 ∷ 1 ∷ 3 ∷ 3 ∷ 3 ∷ 3 ∷ 3 ∷ 3 ∷ []
  pub rows : map row_of_fault all_faults ≡ None ∷ None ∷ None ∷ None ∷ Some 7 ∷ Some 7 ∷ Some 7 ∷ Some 7 ∷ Some 7 ∷ Some 7 ∷ []
  pub writing : refusal_number ShortBuffer ≡ 11

-- two bytes written into buffers of three, of two and of one
pub record BuffersAsLeft : Type 0 where
  pub inside : put (1 ∷ 2 ∷ 3 ∷ 4 ∷ []) 1 (8 ∷ 9 ∷ []) ≡ 1 ∷ 8 ∷ 9 ∷ 4 ∷ []
  pub longer : Writes (8 ∷ 9 ∷ []) (Ok 2) (1 ∷ 2 ∷ 3 ∷ []) (8 ∷ 9 ∷ 3 ∷ [])
  pub just : Writes (8 ∷ 9 ∷ []) (Ok 2) (1 ∷ 2 ∷ []) (8 ∷ 9 ∷ [])
  pub shorter : Writes (8 ∷ 9 ∷ []) (Err ShortBuffer) (1 ∷ []) (1 ∷ [])
