use Rattle.std.proofs.Common.{◌≡◌, ℕ, ◌+◌, length, take, drop, Ok, sym, refl, ap, ◌∙◌, arith}
use Rattle.std.proofs.lemmas.List.{take_at}
use Rattle.sheet.specs.Sheet.{header_bytes, rows_bytes, sheet_size, sheet_of}
use Rattle.sheet.specs.Writing.{put}
use Rattle.sheet.specs.Reading.{read_sheet}
use Rattle.sheet.specs.Tables.{rows_of}
use Rattle.sheet.proofs.Puts.{put_put, wrote, refused}
use Rattle.sheet.proofs.Sizes.{length_header, length_sheet}
use Rattle.sheet.proofs.Slots.{length_rows_of, table_reads_back}
use Rattle.sheet.proofs.table.Table.write.Goals as goal

pub returns-then-out-size : goal.returns-then-out-size
returns-then-out-size c =
    let count = length_rows_of c.args.self.now in
    let long = length_sheet (rows_of c.args.self.now) in
    record {
      written = refused _ _ _ _ (omega arith) refl refl;
      reread = λ n e. absurd (let z : ◌≡◌ {A = ℕ} 0 1 = cc in omega arith);
    }

pub returns : goal.returns
returns c =
    let rows = rows_of c.args.self.now in
    let old = c.args.out.now in
    let count : length rows ≡ c.args.self.now.count = length_rows_of c.args.self.now in
    let long : length (sheet_of rows) ≡ sheet_size (length rows) = length_sheet rows in
    let size : c.sheet_size-size.result ≡ length (sheet_of rows) = omega (arith, c.sheet_size-size.ensures) in
    let head : c.copy_at.new.out ≡ put old 0 (header_bytes (length rows))
    = c.copy_at.ensures ∙ ap (put old 0) c.header_bytes.ensures ∙ ap (λ n. put old 0 (header_bytes n)) (sym count) in
    let filled : c.write_rows.new.out ≡ put old 0 (sheet_of rows)
    = c.write_rows.ensures
    ∙ ap (put c.copy_at.new.out 16) (ap rows_bytes c.rows.ensures)
    ∙ ap (λ o. put o 16 (rows_bytes rows)) head
    ∙ ap (λ n. put (put old 0 (header_bytes (length rows))) (0 + n) (rows_bytes rows)) (sym (length_header (length rows)))
    ∙ put_put old 0 (header_bytes (length rows)) (rows_bytes rows) (omega arith) in
    record {
      written = wrote _ _ _ _ (omega arith) (ap Ok size) filled;
      reread = λ n e.
          let whole : length (sheet_of rows) ≡ n = sym size ∙ cc e in
          ap (λ o. read_sheet (take n o)) filled
          ∙ ap read_sheet (take_at (sheet_of rows) (drop (0 + length (sheet_of rows)) old) n whole)
          ∙ table_reads_back c.args.self.now;
    }
