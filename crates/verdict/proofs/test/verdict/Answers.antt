use Rattle.std.proofs.Common.{◌+◌, sym, arith}
use Rattle.verdict.specs.Test.{load, shortfall}
use Rattle.verdict.proofs.Bounds.{row_in_range, rows_in_range, load_to_most, shortfall_to_most, blocking_most}
use Rattle.verdict.proofs.Turns.{zeroes, sum_more, passes_next, passes_on, fails_here}
use Rattle.verdict.proofs.test.verdict.Goals as goal

pub load-sum_load-requires : goal.load-sum_load-requires
load-sum_load-requires c = row_in_range c.args.rows.now c.loop-i.i zeroes c.requires.lawful c.loop-i-test.true

pub shortfall-sum_shortfall-requires : goal.shortfall-sum_shortfall-requires
shortfall-sum_shortfall-requires c = row_in_range c.args.rows.now c.loop-i.i zeroes c.requires.lawful c.loop-i-test.true

pub overflow_add-sum_load : goal.overflow_add-sum_load
overflow_add-sum_load c =
    let rows = c.args.rows.now in
    let i = c.loop-i.i in
    let sum = sum_more load rows i _ _ c.loop-i-test.true c.loop-i.invariant.0 c.load-sum_load.ensures in
    let most = load_to_most (i + 1) rows (rows_in_range 0 rows c.requires.lawful) c.requires.few in
    omega arith

pub overflow_add-sum_shortfall : goal.overflow_add-sum_shortfall
overflow_add-sum_shortfall c =
    let rows = c.args.rows.now in
    let i = c.loop-i.i in
    let sum = sum_more shortfall rows i _ _ c.loop-i-test.true c.loop-i.invariant.1 c.shortfall-sum_shortfall.ensures in
    let most = shortfall_to_most (i + 1) rows (rows_in_range 0 rows c.requires.lawful) c.requires.few in
    omega arith

pub passes-requires : goal.passes-requires
passes-requires c =
    let rows = c.args.rows.now in
    let i = c.loop-i.i in
    let ranges = rows_in_range 0 rows c.requires.lawful in
    let loads = sum_more load rows i _ _ c.loop-i-test.true c.loop-i.invariant.0 c.load-sum_load.ensures in
    let shortfalls = sum_more shortfall rows i _ _ c.loop-i-test.true c.loop-i.invariant.1 c.shortfall-sum_shortfall.ensures in
    let S = load_to_most (i + 1) rows ranges c.requires.few in
    let G = shortfall_to_most (i + 1) rows ranges c.requires.few in
    let B = blocking_most (i + 1) rows ranges in
    record { near = (row_in_range rows i zeroes c.requires.lawful c.loop-i-test.true).near; loaded = omega arith; lost = omega arith; held = omega arith }

pub returns-then-not-passes : goal.returns-then-not-passes
returns-then-not-passes c =
    let rows = c.args.rows.now in
    let i = c.loop-i.i in
    let inside = c.loop-i-test.true in
    let loads = sum_more load rows i _ _ inside c.loop-i.invariant.0 c.load-sum_load.ensures in
    let shortfalls = sum_more shortfall rows i _ _ inside c.loop-i.invariant.1 c.shortfall-sum_shortfall.ensures in
    sym (fails_here rows i inside (passes_next rows i inside _ _ _ _ loads shortfalls c.blocking_after-blocking.ensures c.if-not-passes.ensures) c.loop-i.invariant.2)

pub loop-i-preserved : goal.loop-i-preserved
loop-i-preserved c =
    let rows = c.args.rows.now in
    let i = c.loop-i.i in
    let inside = c.loop-i-test.true in
    let loads = sum_more load rows i _ _ inside c.loop-i.invariant.0 c.load-sum_load.ensures in
    let shortfalls = sum_more shortfall rows i _ _ inside c.loop-i.invariant.1 c.shortfall-sum_shortfall.ensures in
    (loads, shortfalls, passes_on rows i inside (passes_next rows i inside _ _ _ _ loads shortfalls c.blocking_after-blocking.ensures c.if-not-passes.ensures) c.loop-i.invariant.2)
