use Rattle.std.proofs.Common.{refl}
use Rattle.periods.specs.Periods.{periods}
use Rattle.sheet.specs.Sheet.{header_bytes, row_bytes}
use Rattle.sheet.specs.Reading.{read_row, read_sheet}
use Rattle.sheet.proofs.theorems.range_ends.Goals as goal

pub returns : goal.returns
unfolding periods read_sheet read_row row_bytes header_bytes
returns c = record { last_code = refl; past_last_code = refl; period_four = refl; longest_deadline = refl; past_longest_deadline = refl }
