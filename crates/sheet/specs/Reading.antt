-- What a sheet says: its rows, or the first fault in the order of the tests.
use Rattle.std.specs.Prelude.{◌≡◌, ℕ, zero, suc, ◌+◌, ◌≤◌, Bool, cond, ◌&&◌, ◌||◌, List, [], ◌∷◌, length, take, drop, Some, None, Ok, Err, Option, Result, ◌==◌, nat_lt, slice_index, slice_index_or, unwrap_or}
use Rattle.periods.specs.Periods.{cycle, named}
use Rattle.sheet.specs.declared.row.Row.{Row}
use Rattle.sheet.specs.declared.fault.Rule.{Rule}
use Rattle.sheet.specs.declared.fault.Rule.TheVariants.{Text}
use Rattle.sheet.specs.declared.fault.Fault.{Fault}
use Rattle.sheet.specs.declared.fault.Fault.TheVariants.{Short, RowCount, Header, Length, Broken}
use Rattle.sheet.specs.declared.table.Table.{Table}
use Rattle.sheet.specs.Rows.{blank, broken}
use Rattle.sheet.specs.Sheet.{two_at, four_at, sheet_size}
use Rattle.sheet.specs.Tables.{rows_of}

-- the row in 28 bytes, lawful or not; its period is 0 where its code names none
abbrev pub row_in : List ℕ → Row
row_in bs = record {
  label = take 8 bs;
  phase = four_at bs 8;
  period = unwrap_or (named (two_at bs 24)) 0;
  code = two_at bs 24;
  execution = four_at bs 12;
  deadline = four_at bs 16;
  hold = four_at bs 20;
}

-- both closing bytes of a row are 0
abbrev pub closed : List ℕ → Bool
closed bs = slice_index bs 26 == 0 && slice_index bs 27 == 0

-- row k, or its fault
abbrev pub judged : ℕ → Row → Option Rule → Result Row Fault
judged k r None = Ok r
judged k r (Some rule) = Err (Broken rule k)

-- row k, where the row before has that deadline
unfoldable pub read_row : (k before : ℕ) → List ℕ → Result Row Fault
read_row k before bs = cond (closed bs) (judged k (row_in bs) (broken before (row_in bs))) (Err (Broken Text k))

-- what the next reader makes of a value, or the fault handed up
abbrev pub then : {A B : Type 0} → Result A Fault → (A → Result B Fault) → Result B Fault
then (Ok a) f = f a
then (Err e) f = Err e

-- the next rows, as many as are left, from row k on: each through all its rules before the next
abbrev pub read_rows : (left k before : ℕ) → List ℕ → Result (List Row) Fault
read_rows zero k before bs = Ok []
read_rows (suc left) k before bs =
    then (read_row k before bs) (λ r. then (read_rows left (k + 1) r.deadline (drop 28 bs)) (λ rs. Ok (r ∷ rs)))

-- there is no row, or more than 32
abbrev pub bad_count : ℕ → Bool
bad_count count = count == 0 || nat_lt 32 count

-- the fields of the header after the row count are as the layout has them
abbrev pub header_stands : List ℕ → Bool
header_stands bs =
    (two_at bs 2 == 16) && (two_at bs 4 == 0 && (two_at bs 6 == 0 &&
    (four_at bs 8 == cycle && four_at bs 12 == sheet_size (two_at bs 0))))

-- the row count that the header gives
abbrev pub read_header : List ℕ → Result ℕ Fault
read_header bs =
    cond (bad_count (two_at bs 0)) (Err RowCount)
    (cond (header_stands bs) (Ok (two_at bs 0)) (Err Header))

-- what a sheet says
unfoldable pub read_sheet : List ℕ → Result (List Row) Fault
read_sheet bs =
    cond (nat_lt (length bs) 16) (Err Short)
    (then (read_header bs) (λ count.
    cond (length bs == sheet_size count) (read_rows count 1 0 (drop 16 bs)) (Err Length)))

-- what filling the slots of a table answers, by what the bytes of its rows say: the rows first, blanks after them
abbrev pub Fills : ℕ → Result (List Row) Fault → Result (List Row) Fault → Type 0
Fills count said (Ok slots) =
    (said ≡ Ok (take count slots)) × (length slots ≡ 32) × ((k : ℕ) → count ≤ k → slice_index_or slots k blank ≡ blank)
Fills count said (Err fault) = said ≡ Err fault

-- what a call of `read` answers and leaves, by what the sheet says: its rows, or its fault and the table as it was
abbrev pub Reads : Result (List Row) Fault → Result Unit Fault → Table → Table → Type 0
Reads (Ok rows) r old new = (r ≡ Ok tt) × (rows_of new ≡ rows)
Reads (Err fault) r old new = (r ≡ Err fault) × (new ≡ old)
