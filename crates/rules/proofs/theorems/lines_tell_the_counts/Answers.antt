use Rattle.rules.proofs.Lines.{lines_tell}
use Rattle.rules.proofs.theorems.lines_tell_the_counts.Goals as goal

pub returns : goal.returns
returns c = lines_tell
