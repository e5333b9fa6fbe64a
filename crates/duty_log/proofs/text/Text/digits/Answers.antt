use Rattle.std.proofs.Common.{length, length-append, length-drop, append_assoc, arith, ap, ◌∙◌}
use Rattle.std.proofs.lemmas.List.{take_all}
use Rattle.std.proofs.lemmas.Fmt.{decimal_digit, decimal_nonempty}
use Rattle.duty_log.proofs.Digits.{room_before, last_digit}
use Rattle.duty_log.proofs.text.Text.digits.Goals as goal

pub overflow_sub-first : goal.overflow_sub-first
overflow_sub-first c = let said = c.loop-rest.invariant in room_before _ _ _ _ said.0 said.1 said.2 (omega arith) (omega arith) c.loop-rest-test.true

pub loop-rest-preserved : goal.loop-rest-preserved
loop-rest-preserved c =
    let l = c.loop-rest in
    let said = l.invariant in
    let room = room_before _ _ _ _ said.0 said.1 said.2 (omega arith) (omega arith) c.loop-rest-test.true in
    (grind arith, omega arith, said.2 ∙ last_digit l.digits l.first l.rest c.loop-rest-test.true (omega arith) room (omega arith))

pub push-requires : goal.push-requires
push-requires c = omega (arith, decimal_nonempty c.args.n (omega arith))

pub append-requires : goal.append-requires
append-requires c =
    let one = decimal_digit c.loop-rest.rest c.loop-rest-test.false in
    let long = ap length c.loop-rest.invariant.2 in
    grind (arith, length-append, length-drop, take_all)

pub returns : goal.returns
returns c = let one = decimal_digit c.loop-rest.rest c.loop-rest-test.false in grind (arith, length-drop, take_all, append_assoc)
