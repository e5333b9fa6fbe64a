use Rattle.std.proofs.Common.{replicate, sym, ap, ◌∙◌, arith}
use Rattle.sheet.specs.Sheet.{row_bytes}
use Rattle.sheet.specs.Writing.{put}
use Rattle.sheet.proofs.ReadsBack.{eight_back}
use Rattle.sheet.proofs.write.row_bytes.Goals as goal

-- field by field, the list computes
pub returns : goal.returns
unfolding row_bytes
returns c =
    let label = c.copy_at.ensures ∙ ap (put (replicate 28 0) 0) (sym (eight_back c.args.row.now.label (omega arith))) in
    let phase = c.copy_at-2.ensures ∙ (λ i. put (label i) 8 (c.to_be_bytes.ensures i)) in
    let execution = c.copy_at-3.ensures ∙ (λ i. put (phase i) 12 (c.to_be_bytes-2.ensures i)) in
    let deadline = c.copy_at-4.ensures ∙ (λ i. put (execution i) 16 (c.to_be_bytes-3.ensures i)) in
    let hold = c.copy_at-5.ensures ∙ (λ i. put (deadline i) 20 (c.to_be_bytes-4.ensures i)) in
    c.copy_at-6.ensures ∙ (λ i. put (hold i) 24 (c.to_be_bytes-5.ensures i))
