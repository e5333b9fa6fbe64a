-- What the slots of a table say of its rows.
use Rattle.std.proofs.Common.{◌≡◌, ℕ, ◌<◌, ◌≤◌, length, get_or, Ok, sym, ap, ◌∙◌, ⊎_elim, arith}
use Rattle.std.proofs.lemmas.List.{length-take-le, get_or-take, get_or_default, same_lists}
use Rattle.std.proofs.lemmas.Bool.{cases_lt}
use Rattle.sheet.specs.declared.row.Row.{Row}
use Rattle.sheet.specs.declared.table.Table.{Table}
use Rattle.sheet.specs.Rows.{blank}
use Rattle.sheet.specs.Tables.{rows_of}
use Rattle.sheet.specs.Sheet.{sheet_of}
use Rattle.sheet.specs.Reading.{read_sheet}
use Rattle.sheet.specs.Laws.{RowsMakeTable}
use Rattle.sheet.proofs.ReadsBack.{reads_back}

pub length_rows_of : (t : Table) → length (rows_of t) ≡ t.count
length_rows_of t = length-take-le t.count t.slots (omega (arith, t.few, t.full))

pub table_reads_back : (t : Table) → read_sheet (sheet_of (rows_of t)) ≡ Ok (rows_of t)
table_reads_back t = let e = length_rows_of t in reads_back (rows_of t) (omega (arith, t.some)) (omega (arith, t.few)) t.lawful

-- a slot is a row, or else blank
module _ (s t : Table) (same : rows_of s ≡ rows_of t) where
  same_count : s.count ≡ t.count
  same_count = sym (length_rows_of s) ∙ ap length same ∙ length_rows_of t

  same_row : (k : ℕ) (d : Row) → k < s.count → get_or s.slots k d ≡ get_or t.slots k d
  same_row k d h =
      let e = same_count in
      sym (get_or-take s.count s.slots k d h) ∙ ap (λ l. get_or l k d) same ∙ get_or-take t.count t.slots k d (omega arith)

  same_blank : (k : ℕ) (d : Row) → k < 32 → s.count ≤ k → get_or s.slots k d ≡ get_or t.slots k d
  same_blank k d h past =
      let e = same_count in
      get_or_default s.slots k d blank (omega (arith, s.full)) ∙ s.padded k past
      ∙ sym (get_or_default t.slots k d blank (omega (arith, t.full)) ∙ t.padded k (omega arith))

  same_slot : (k : ℕ) (d : Row) → k < length s.slots → get_or s.slots k d ≡ get_or t.slots k d
  same_slot k d h = ⊎_elim (same_row k d) (same_blank k d (omega (arith, s.full))) (cases_lt k s.count)

  same_slots : s.slots ≡ t.slots
  same_slots = same_lists s.slots t.slots (s.full ∙ sym t.full) same_slot

pub rows_make_table : RowsMakeTable
rows_make_table s t same = (same_count s t same, same_slots s t same)
