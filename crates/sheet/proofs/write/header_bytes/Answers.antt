use Rattle.std.proofs.Common.{replicate, ap, ◌∙◌}
use Rattle.sheet.specs.Sheet.{four_bytes, header_bytes}
use Rattle.sheet.specs.Writing.{put}
use Rattle.sheet.proofs.write.header_bytes.Goals as goal

-- field by field, the list computes
pub returns : goal.returns
unfolding header_bytes
returns c =
    let counted = c.copy_at.ensures ∙ ap (put (replicate 16 0) 0) c.to_be_bytes.ensures in
    let placed = c.copy_at-2.ensures ∙ (λ i. put (counted i) 2 (c.to_be_bytes-2.ensures i)) in
    let cycled = c.copy_at-3.ensures ∙ (λ i. put (placed i) 8 (c.to_be_bytes-3.ensures i)) in
    c.copy_at-4.ensures ∙ (λ i. put (cycled i) 12 ((c.to_be_bytes-4.ensures ∙ ap four_bytes c.sheet_size.ensures) i))
