-- What closing gives keeps the promise.
use Rattle.std.proofs.Common.{◌-◌, ◌<◌, ◌≤◌, length, replicate, sym, subst, arith}
use Rattle.std.proofs.lemmas.List.{get_or_append_left}
use Rattle.sheet.specs.Tables.{rows_of}
use Rattle.verdict.specs.Test.{row_at}
use Rattle.rules.specs.State.{no_counts}
use Rattle.rules.specs.Run.{after_run}
use Rattle.rules.specs.Deadlines.{deadlines_by}
use Rattle.rules.specs.Promises.{EveryClosing}
use Rattle.rules.proofs.Laws.{met_if_punctual}
use Rattle.rules.proofs.Punctual.{punctual}
use Rattle.rules.proofs.Interruptions.{few_interruptions}
use Rattle.rules.proofs.Runs.{sound_run}

pub every_closing : EveryClosing
every_closing t calls = record {
  running = punctual t calls;
  in_time = λ admitted i low high.
      let s = after_run (rows_of t) calls in
      let there : i - 1 < length s.tasks = omega (arith, (sound_run t calls).kept.size) in
      subst (λ k. deadlines_by (row_at i (rows_of t)) s.clock ≤ k.done) (sym (get_or_append_left s.tasks (replicate (32 - length s.tasks) no_counts) no_counts (i - 1) there))
      (met_if_punctual punctual t calls admitted i low high);
  few = few_interruptions t calls;
}
