use Rattle.std.proofs.Common.{arith, length-take}
use Rattle.sheet.specs.Tables.{rows_of}
use Rattle.verdict.proofs.Bounds.{table_small}
use Rattle.verdict.proofs.theorems.sums_stay_small.Goals as goal

pub returns : goal.returns
returns c = table_small (rows_of c.args.table.now) c.args.table.now.lawful (simp length-take (omega (arith, c.args.table.now.few)))
