use Rattle.std.proofs.Common.{◌≡◌, ◌-◌, ◌++◌, length, drop, replicate, ap, ◌∙◌, arith}
use Rattle.std.proofs.lemmas.List.{drop-replicate}
use Rattle.rules.specs.State.{no_counts}
use Rattle.duty_bench.proofs.Openings.{all_none}
use Rattle.duty_bench.proofs.open.padded.Goals as goal

pub returns : goal.returns
returns c =
    let n = length c.args.tasks.now in
    let past : n - 0 ≡ n = omega arith in
    (λ i. c.copy_from_slice.ensures.after i ++ drop (past i) (replicate 32 (all_none c.default-all.result c.default-all.ensures i)))
    ∙ ap (λ zs. c.args.tasks.now ++ zs) (drop-replicate n 32 no_counts)
