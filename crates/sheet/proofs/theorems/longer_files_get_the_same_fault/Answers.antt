use Rattle.sheet.proofs.Longer.{longer_alike}
use Rattle.sheet.proofs.theorems.longer_files_get_the_same_fault.Goals as goal

pub returns : goal.returns
returns c = longer_alike
