use Rattle.std.proofs.Common.{◌≡◌, ◌+◌, ◌*◌, drop, ◌∙◌, arith}
use Rattle.sheet.specs.Sheet.{rows_bytes}
use Rattle.sheet.specs.Writing.{put}
use Rattle.sheet.proofs.Puts.{put_row}
use Rattle.sheet.proofs.write.write_rows.Goals as goal

pub loop-k-preserved : goal.loop-k-preserved
loop-k-preserved c =
    let k = c.loop-k.k in
    let rows = c.args.rows.now in
    let next : 16 + 28 * (k + 1) ≡ 16 + 28 * k + 28 = omega arith in
    (λ i. put ((c.copy_at.ensures ∙ (λ j. put c.loop-k.out (c.sheet_size.ensures j) (c.row_bytes.ensures j))) i) (next i) (rows_bytes (drop (k + 1) rows)))
    ∙ put_row c.loop-k.out (16 + 28 * k) rows k _ (omega arith) (omega (arith, c.loop-k.auto.out))
    ∙ c.loop-k.invariant
