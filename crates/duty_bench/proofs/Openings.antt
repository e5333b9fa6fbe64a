-- The tasks of a bench that is opened or closed.
use Rattle.std.proofs.Common.{◌≡◌, ℕ, ◌≤◌, List, [], length, take, replicate, None, ap, ◌∙◌, arith}
use Rattle.std.proofs.lemmas.List.{length-take, take-replicate}
use Rattle.verdict.specs.declared.judged.Judged.{Judged}
use Rattle.rules.specs.declared.counts.TaskCounts.{TaskCounts}
use Rattle.ready.specs.declared.job.Job.{Job}
use Rattle.rules.specs.declared.counts.Counts.{Counts}
use Rattle.rules.specs.State.{State, no_counts, opened}
use Rattle.rules.proofs.Tasks.{none_at}
use Rattle.duty_bench.specs.Model.{judged_rows}
use Rattle.duty_bench.specs.Bounds.{Counted}

pub rows_few : (j : Judged) → length (judged_rows j) ≤ 32
rows_few j = omega (arith, length-take j.table.count j.table.slots, j.table.few)

-- counts that are all 0
pub all_none : (k : TaskCounts) → (k.released ≡ 0) × ((k.done ≡ 0) × (k.given ≡ 0)) → k ≡ no_counts
all_none k e i = record { released = e.0 i; done = e.1.0 i; given = e.1.1 i }

pub counted_none : (n : ℕ) → Counted 0 0 (replicate n no_counts)
counted_none n k =
    let e = none_at n k in
    (omega (arith, ap (λ c. c.released) e), omega (arith, ap (λ c. c.done) e), omega (arith, ap (λ c. c.given) e))

pub take_none : (j : Judged) → take (length (judged_rows j)) (replicate 32 no_counts) ≡ replicate (length (judged_rows j)) no_counts
take_none j = take-replicate (length (judged_rows j)) 32 no_counts (rows_few j)

-- a bench with an empty queue and counts of 0 is in the opened state
pub is_opened : (j : Judged) {waiting : List Job} {k : TaskCounts} {c : Counts} → waiting ≡ []
    → (k.released ≡ 0) × ((k.done ≡ 0) × (k.given ≡ 0)) → (c.idle ≡ 0) × ((c.begun ≡ 0) × (c.interruptions ≡ 0))
    → ◌≡◌ {A = State} (record { clock = 0; waiting = waiting; hand = None; previous = None; tasks = take (length (judged_rows j)) (replicate 32 k); counts = c; miss = None })
    (opened (judged_rows j))
is_opened j {k = k} empty none idle i = record {
  clock = 0;
  waiting = empty i;
  hand = None;
  previous = None;
  tasks = (ap (λ x. take (length (judged_rows j)) (replicate 32 x)) (all_none k none) ∙ take_none j) i;
  counts = record { idle = idle.0 i; begun = idle.1.0 i; interruptions = idle.1.1 i };
  miss = None;
}
