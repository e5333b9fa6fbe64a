use Rattle.std.proofs.Common.{Some, sym, ap, ◌∙◌, arith}
use Rattle.periods.specs.Periods.{periods, period_of}
use Rattle.periods.proofs.Codes.{named_some}
use Rattle.periods.proofs.list.period.Goals as goal

pub returns : goal.returns
unfolding periods
returns c = ap (λ n. Some (period_of n)) c.from.ensures ∙ sym (named_some c.args.code (omega arith) (omega arith))
