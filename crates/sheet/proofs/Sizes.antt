-- How long the parts of a sheet are.
use Rattle.std.proofs.Common.{◌≡◌, ℕ, ◌*◌, List, [], ◌∷◌, length, refl, ◌∙◌, arith, length-append}
use Rattle.sheet.specs.declared.row.Row.{Row}
use Rattle.sheet.specs.Sheet.{header_bytes, row_bytes, rows_bytes, sheet_size, sheet_of}

pub length_row : (r : Row) → length (row_bytes r) ≡ 28
unfolding row_bytes
length_row r = refl

pub length_header : (n : ℕ) → length (header_bytes n) ≡ 16
unfolding header_bytes
length_header n = refl

pub length_rows : (rs : List Row) → length (rows_bytes rs) ≡ 28 * length rs
length_rows [] = refl
length_rows (r ∷ rs) = let h = length_rows rs in let e = length_row r in length-append (row_bytes r) (rows_bytes rs) ∙ omega arith

pub length_sheet : (rs : List Row) → length (sheet_of rs) ≡ sheet_size (length rs)
length_sheet rs =
    let h = length_rows rs in let e = length_header (length rs) in length-append (header_bytes (length rs)) (rows_bytes rs) ∙ omega arith
