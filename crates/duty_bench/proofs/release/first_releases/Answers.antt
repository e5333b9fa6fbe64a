use Rattle.std.proofs.Common.{List, length, replicate, ap, subst, arith}
use Rattle.std.proofs.lemmas.List.{get_or_default}
use Rattle.sheet.specs.declared.row.Row.{Row}
use Rattle.sheet.specs.Rows.{blank}
use Rattle.rules.specs.State.{no_counts}
use Rattle.duty_bench.specs.Awaited.{Awaited}
use Rattle.duty_bench.proofs.Openings.{rows_few}
use Rattle.duty_bench.proofs.FirstReleases.{opened_more, opened_all}
use Rattle.duty_bench.proofs.release.first_releases.Goals as goal

pub loop-i-preserved : goal.loop-i-preserved
loop-i-preserved c =
    opened_more c.rows-rows.result.now c.loop-i.i _ c.loop-i.coming c.add.new.self c.loop-i-test.true
    (omega (arith, rows_few c.args.judged.now, ap length c.rows-rows.ensures))
    (ap (λ (r : Row). r.phase) (get_or_default c.rows-rows.result.now c.loop-i.i _ blank c.loop-i-test.true))
    c.loop-i.invariant c.add.ensures.list

pub returns : goal.returns
returns c =
    subst (λ (rows : List Row). Awaited rows (replicate 32 no_counts) c.loop-i.coming) c.rows-rows.ensures
    (opened_all c.rows-rows.result.now c.loop-i.i c.loop-i.coming (omega arith) c.loop-i.invariant)
