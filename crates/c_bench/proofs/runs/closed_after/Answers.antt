use Rattle.std.proofs.Common.{rules}
use Rattle.std.proofs.lemmas.Iterator.{YieldsList-from_slice, YieldsList-from_map}
use Rattle.rules.specs.declared.call.Call.TheVariants.{Step}
use Rattle.duty_bench.specs.Model.{judged_rows}
use Rattle.duty_bench.proofs.Calls.{closing_of_all}
use Rattle.c_bench.proofs.runs.closed_after.Goals as goal

pub returns-clause-rules : goal.returns-clause-rules
returns-clause-rules c =
    closing_of_all (judged_rows c.args.judged) c.run_calls.ensures.rules
    (YieldsList-from_map _ (λ letter. Step letter) (YieldsList-from_slice c.args.letters.now cc) c.map-calls.ensures.closure (λ x r q k. search rules))
