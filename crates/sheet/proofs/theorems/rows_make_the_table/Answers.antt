use Rattle.sheet.proofs.Slots.{rows_make_table}
use Rattle.sheet.proofs.Lawful.{rows_have_table}
use Rattle.sheet.proofs.theorems.rows_make_the_table.Goals as goal

pub returns : goal.returns
returns c = record { one = rows_make_table; some = rows_have_table }
