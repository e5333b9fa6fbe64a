use Rattle.std.proofs.lemmas.Iterator.{YieldsList-from_slice}
use Rattle.std.proofs.lemmas.Iterator.Consumers.{YieldsList-from_copied}
use Rattle.duty_bench.specs.Model.{judged_rows}
use Rattle.duty_bench.proofs.Calls.{closing_of_all}
use Rattle.duty_bench.proofs.run.run.Goals as goal

pub returns-clause-rules : goal.returns-clause-rules
returns-clause-rules g c = closing_of_all (judged_rows c.args.judged) c.run_calls.ensures.rules (YieldsList-from_copied (YieldsList-from_slice c.args.calls.now cc))
