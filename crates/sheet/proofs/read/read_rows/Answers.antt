use Rattle.std.proofs.Common.{◌≡◌, ◌+◌, ◌-◌, ◌*◌, ◌/◌, ◌<◌, ◌≢◌, length, drop, Err, sym, refl, ap, ◌∙◌, subst, arith, length-set, get_or-set_other}
use Rattle.std.proofs.lemmas.List.{take_more_set, drop-drop}
use Rattle.std.proofs.lemmas.Result.{err_from_is_err_and}
use Rattle.sheet.specs.Reading.{Fills, read_row, read_rows}
use Rattle.sheet.proofs.Padding.{blank_at}
use Rattle.sheet.proofs.Fronts.{row_at_piece}
use Rattle.sheet.proofs.Reading.{ahead, ahead_none, row_fails, row_stands}
use Rattle.sheet.proofs.read.read_rows.Goals as goal

pub loop-k-init : goal.loop-k-init
loop-k-init c = (refl, (λ j h. blank_at 32 j), ahead_none (length c.args.bytes.now / 28) c.args.bytes.now)

pub returns-in_err-row : goal.returns-in_err-row
returns-in_err-row c =
    let p = err_from_is_err_and c.from_residual.result c.from_residual.ensures.1 in
    let bytes = c.args.bytes.now in
    let n = length bytes / 28 in
    let on : c.loop-k.k < n = omega (arith, c.as_chunks.ensures.front_len, c.loop-k-test.true) in
    let said : read_row (c.loop-k.k + 1) c.loop-k.before (drop (28 * c.loop-k.k) bytes) ≡ Err p.0
    = sym (row_at_piece _ _ n c.loop-k.k bytes _ _ c.as_chunks.ensures.front on) ∙ sym c.in_err-row.ensures ∙ ap Err (sym p.2) in
    subst (Fills n (read_rows n 1 0 bytes)) (sym p.1) (row_fails _ _ _ _ _ _ on c.loop-k.invariant.2 _ said)

pub loop-k-preserved : goal.loop-k-preserved
loop-k-preserved c =
    let k = c.loop-k.k in
    let bytes = c.args.bytes.now in
    let n = length bytes / 28 in
    let row = c.in_ok-row.row in
    let on : k < n = omega (arith, c.as_chunks.ensures.front_len, c.loop-k-test.true) in
    let inside : k < length c.loop-k.slots = omega (arith, c.loop-k.invariant.0, c.requires.few) in
    let said = sym (row_at_piece _ _ n k bytes _ _ c.as_chunks.ensures.front on) ∙ sym c.in_ok-row.ensures in
    let further : 28 * k + 28 ≡ 28 * (k + 1) = omega arith in
    let rest : drop 28 (drop (28 * k) bytes) ≡ drop (28 * (k + 1)) bytes = drop-drop 28 (28 * k) bytes ∙ ap (λ n. drop n bytes) further in (
      length-set _ _ _ ∙ c.loop-k.invariant.0,
      (λ j h. let other : j ≢ k = omega arith in rw get_or-set_other (c.loop-k.invariant.1 j (omega arith))),
      row_stands _ _ _ _ _ _ on c.loop-k.invariant.2 row said
          ∙ (λ i. ahead (sym (take_more_set c.loop-k.slots k row inside) i) (read_rows (n - (k + 1)) (k + 1 + 1) row.deadline (rest i))),
    )
