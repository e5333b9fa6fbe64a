use Rattle.std.proofs.Common.{◌≡◌, true, None, Err, Ok, sym, ap, ◌∙◌, arith}
use Rattle.std.proofs.lemmas.Bool.Decides.{nat_tests}
use Rattle.std.proofs.lemmas.Result.{err_from_is_err_and}
use Rattle.std.specs.List.{list_all}
use Rattle.std.specs.Option.{ok_or}
use Rattle.std.specs.Result.{result_map_both}
use Rattle.periods.specs.Periods.{named}
use Rattle.sheet.specs.declared.fault.Fault.TheVariants.{Broken}
use Rattle.sheet.specs.declared.fault.Rule.TheVariants.{Code}
use Rattle.sheet.specs.Rows.{broken, printable}
use Rattle.sheet.specs.Sheet.{two_at}
use Rattle.sheet.specs.Reading.{closed}
use Rattle.sheet.proofs.Named.{named_within}
use Rattle.sheet.proofs.Reading.{row_unclosed, row_breaks, row_text, row_code, row_keeps, row_is}
use Rattle.sheet.proofs.read.row_in.Goals as goal
use Rattle.sheet.proofs.read.row_in.Goals.{then-bytes-ne0-via-then-bytes-ne0, then-bytes-ne0-via-else-bytes-ne0+then-bytes-ne0-2, then-bytes-ne0-via-else-bytes-ne0+else-bytes-ne0-2+then-not-is_printable}

pub returns-then-bytes-ne0 : goal.returns-then-bytes-ne0
returns-then-bytes-ne0 c k =
    let bytes = c.args.bytes.now in
    elim c.then-bytes-ne0.branch [
      | then-bytes-ne0-via-then-bytes-ne0 w ↦ row_unclosed k _ bytes (let h = w.if-bytes-ne0.true in grind (arith, nat_tests))
      | then-bytes-ne0-via-else-bytes-ne0+then-bytes-ne0-2 w ↦ row_unclosed k _ bytes (let h = w.if-bytes-ne0-2.true in grind (arith, nat_tests))
      | then-bytes-ne0-via-else-bytes-ne0+else-bytes-ne0-2+then-not-is_printable w ↦
          let first = w.if-bytes-ne0.false in
          let second = w.if-bytes-ne0-2.false in
          row_text k _ bytes (grind (arith, nat_tests)) (ap (list_all printable) (sym c.array_at-label.ensures) ∙ sym w.if-not-is_printable.ensures)
    ]

pub check_numbers-requires-clause-period : goal.check_numbers-requires-clause-period
check_numbers-requires-clause-period c = named_within c.u16_at-code.result _ (sym c.period.ensures ∙ c.in_ok-period.ensures.ok_part)

pub returns-in_err-period : goal.returns-in_err-period
returns-in_err-period c k =
    let bytes = c.args.bytes.now in
    let p = err_from_is_err_and c.from_residual.result c.from_residual.ensures.1 in
    let closed_so : closed bytes ≡ true = grind (arith, nat_tests) in
    let unnamed : named (two_at bytes 24) ≡ None = ap named (sym c.u16_at-code.ensures) ∙ sym c.period.ensures ∙ c.in_err-period.ensures.ok_part in
    let rule : c.in_err-period.field-0.0 ≡ Code = cc (c.in_err-period.ensures.value ∙ ap (λ o. ok_or o Code) c.in_err-period.ensures.ok_part) in
    row_code k _ bytes closed_so c.told-bytes (ap (list_all printable) (sym c.array_at-label.ensures) ∙ sym c.if-not-is_printable.ensures) unnamed
    ∙ ap (λ r. Err (Broken r k)) (sym rule)
    ∙ ap (result_map_both (λ row. row) (λ rule. Broken rule k)) (sym (p.1 ∙ ap Err p.2))

pub returns-in_err-check_numbers : goal.returns-in_err-check_numbers
returns-in_err-check_numbers c k =
    let bytes = c.args.bytes.now in
    let p = err_from_is_err_and c.from_residual-in_err-check_numbers.result c.from_residual-in_err-check_numbers.ensures.1 in
    let closed_so : closed bytes ≡ true = grind (arith, nat_tests) in
    let same = row_is k c.args.before bytes c.array_at-label.ensures c.u32_at.ensures (sym c.period.ensures ∙ c.in_ok-period.ensures.ok_part) c.u16_at-code.ensures c.u32_at-2.ensures c.u32_at-3.ensures c.u32_at-4.ensures in
    row_breaks k _ bytes _ closed_so (ap (broken c.args.before) (sym same) ∙ sym c.in_err-check_numbers.ensures)
    ∙ ap (result_map_both (λ row. row) (λ rule. Broken rule k)) (sym (p.1 ∙ ap Err p.2))

pub returns : goal.returns
returns c k =
    let bytes = c.args.bytes.now in
    let closed_so : closed bytes ≡ true = grind (arith, nat_tests) in
    let same = row_is k c.args.before bytes c.array_at-label.ensures c.u32_at.ensures (sym c.period.ensures ∙ c.in_ok-period.ensures.ok_part) c.u16_at-code.ensures c.u32_at-2.ensures c.u32_at-3.ensures c.u32_at-4.ensures in
    row_keeps k c.args.before bytes closed_so (ap (broken c.args.before) (sym same) ∙ sym c.in_ok-check_numbers.ensures) ∙ ap Ok (sym same)
