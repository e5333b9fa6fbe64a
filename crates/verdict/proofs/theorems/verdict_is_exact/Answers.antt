use Rattle.verdict.proofs.Verdicts.{exact}
use Rattle.verdict.proofs.theorems.verdict_is_exact.Goals as goal

pub returns : goal.returns
returns c = exact
