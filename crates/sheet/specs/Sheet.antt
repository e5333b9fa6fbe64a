-- A sheet, byte by byte: a header of 16 bytes, then 28 bytes for each row. Numbers stand with their highest byte first.
use Rattle.std.specs.Prelude.{ℕ, ◌+◌, ◌*◌, ◌/◌, ◌%◌, List, [], ◌∷◌, ◌++◌, length, slice_index}
use Rattle.periods.specs.Periods.{cycle}
use Rattle.sheet.specs.declared.row.Row.{Row}

-- a number in two bytes
abbrev pub two_bytes : ℕ → List ℕ
two_bytes n = n / 256 % 256 ∷ n % 256 ∷ []

-- a number in four bytes
abbrev pub four_bytes : ℕ → List ℕ
four_bytes n = n / 16777216 % 256 ∷ n / 65536 % 256 ∷ n / 256 % 256 ∷ n % 256 ∷ []

-- the number in the two bytes from place i on
abbrev pub two_at : List ℕ → ℕ → ℕ
two_at bs i = slice_index bs i * 256 + slice_index bs (i + 1)

-- the number in the four bytes from place i on
abbrev pub four_at : List ℕ → ℕ → ℕ
four_at bs i = slice_index bs i * 16777216 + slice_index bs (i + 1) * 65536 + slice_index bs (i + 2) * 256 + slice_index bs (i + 3)

-- the eight bytes of a label
abbrev pub eight_bytes : List ℕ → List ℕ
eight_bytes l = slice_index l 0 ∷ slice_index l 1 ∷ slice_index l 2 ∷ slice_index l 3 ∷ slice_index l 4 ∷ slice_index l 5 ∷ slice_index l 6 ∷ slice_index l 7 ∷ []

-- how many bytes the sheet of so many rows has
abbrev pub sheet_size : ℕ → ℕ
sheet_size count = 16 + 28 * count

-- the header: row count, row offset, handler count, handler offset, cycle, length in bytes
unfoldable pub header_bytes : ℕ → List ℕ
header_bytes count =
    two_bytes count ++ two_bytes 16 ++ two_bytes 0 ++ two_bytes 0 ++ four_bytes cycle ++ four_bytes (sheet_size count)

-- a row: label, phase, execution, deadline, hold, period code, two closing bytes of 0
unfoldable pub row_bytes : Row → List ℕ
row_bytes r =
    eight_bytes r.label ++ four_bytes r.phase ++ four_bytes r.execution ++ four_bytes r.deadline
    ++ four_bytes r.hold ++ two_bytes r.code ++ 0 ∷ 0 ∷ []

-- the bytes of rows, one row after the other
abbrev pub rows_bytes : List Row → List ℕ
rows_bytes [] = []
rows_bytes (r ∷ rs) = row_bytes r ++ rows_bytes rs

-- the sheet of rows
abbrev pub sheet_of : List Row → List ℕ
sheet_of rows = header_bytes (length rows) ++ rows_bytes rows
