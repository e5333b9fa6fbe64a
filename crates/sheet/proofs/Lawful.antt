-- Accepted sheets say lawful rows, and lawful rows have a table.
use Rattle.std.proofs.Common.{◌≡◌, ℕ, zero, suc, ◌+◌, ◌-◌, true, eqb, ltb, List, [], ◌∷◌, ◌++◌, length, drop, replicate, Ok, sym, refl, ap, ◌∙◌, subst, arith}
use Rattle.std.proofs.lemmas.List.{take_at, length-append, length-replicate, get_or-append_right}
use Rattle.sheet.specs.declared.row.Row.{Row}
use Rattle.sheet.specs.declared.fault.Fault.TheVariants.{Short, Length}
use Rattle.sheet.specs.Rows.{blank, lawful_after}
use Rattle.sheet.specs.Sheet.{sheet_size}
use Rattle.sheet.specs.Reading.{read_row, read_rows, read_header, read_sheet}
use Rattle.sheet.specs.Laws.{SaysLawful, RowsHaveTable}
use Rattle.sheet.proofs.Reading.{header_count}
use Rattle.sheet.proofs.Accepted.{cond_ok, cond_yes, then_ok, rows_lawful}
use Rattle.sheet.proofs.Padding.{blank_at}

-- as many rows are read as were asked for
rows_count : (n k before : ℕ) (bs : List ℕ) (rows : List Row) → read_rows n k before bs ≡ Ok rows → length rows ≡ n
rows_count zero k before bs rows e = let f : [] ≡ rows = cc in sym (ap length f)
rows_count (suc n) k before bs rows e =
    let p = then_ok (read_row k before bs) _ rows e in
    let r = p.0 in
    let q = then_ok (read_rows n (k + 1) r.deadline (drop 28 bs)) _ rows p.1.1 in
    let f : r ∷ q.0 ≡ rows = cc q.1.1 in
    sym (ap length f) ∙ ap suc (rows_count n (k + 1) r.deadline (drop 28 bs) q.0 q.1.0)

pub says_lawful : SaysLawful
unfolding read_sheet
says_lawful bs rows e =
    let p = cond_ok (ltb (length bs) 16) Short _ rows e in
    let q = then_ok (read_header bs) _ rows p.1 in
    let r = cond_yes (eqb (length bs) (sheet_size q.0)) Length _ rows q.1.1 in
    let n = rows_count q.0 1 0 (drop 16 bs) rows r.1 in
    let few = header_count bs q.0 q.1.0 in
    (omega (arith, few.0), omega (arith, few.1), rows_lawful q.0 1 0 (drop 16 bs) rows r.1)

pub rows_have_table : RowsHaveTable
rows_have_table rows some few lawful =
    let pad = replicate (32 - length rows) blank in (
      record {
        slots = rows ++ pad;
        count = length rows;
        some = some;
        few = few;
        lawful = subst (λ l. lawful_after 0 l ≡ true) (sym (take_at rows pad (length rows) refl)) lawful;
        full = let a = length-append rows pad in let b = length-replicate (32 - length rows) blank in omega arith;
        padded = λ k past. get_or-append_right rows pad (length rows) k blank refl past ∙ blank_at (32 - length rows) (k - length rows);
      },
      take_at rows pad (length rows) refl,
    )
