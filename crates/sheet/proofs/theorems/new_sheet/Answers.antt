use Rattle.std.proofs.Common.{refl}
use Rattle.sheet.specs.Sheet.{header_bytes, row_bytes}
use Rattle.sheet.proofs.theorems.new_sheet.Goals as goal

pub returns : goal.returns
unfolding header_bytes row_bytes
returns c = refl
