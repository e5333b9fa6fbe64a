-- The releases to come at clock 0.
use Rattle.std.proofs.Common.{◌≡◌, ℕ, suc, ◌+◌, ◌-◌, ◌<◌, ◌≤◌, List, length, get_or, replicate, sym, ap, ◌∙◌, add-one, arith}
use Rattle.std.proofs.lemmas.Bool.{lt-leb, cond-false}
use Rattle.sheet.specs.declared.row.Row.{Row}
use Rattle.sheet.specs.Rows.{blank}
use Rattle.verdict.specs.Test.{row_at}
use Rattle.ready.specs.Sorted.{placed, ordered}
use Rattle.ready.proofs.Orderings.{length_ordered}
use Rattle.heap.specs.declared.release.Release.{Release}
use Rattle.heap.specs.declared.releases.Releases.{Releases}
use Rattle.heap.specs.Coming.{earlier}
use Rattle.heap.specs.Releases.{coming, coming_list}
use Rattle.rules.specs.declared.counts.TaskCounts.{TaskCounts}
use Rattle.rules.specs.State.{no_counts}
use Rattle.rules.specs.Release.{next_release}
use Rattle.rules.proofs.Tasks.{none_at}
use Rattle.duty_bench.specs.Awaited.{next_time, one_each, Awaited, NoneBefore}
use Rattle.duty_bench.proofs.Awaiting.{length_one_each, same_one_each}

-- the first release of each task
abbrev pub phases : List Row → ℕ → ℕ
phases rows i = (row_at i rows).phase

-- one row more
pub opened_more : (rows : List Row) (i time : ℕ) (r r' : Releases) → i < length rows → length rows ≤ 32 → time ≡ (get_or rows i blank).phase
    → coming r ≡ ordered earlier (one_each (phases rows) i)
    → coming r' ≡ coming_list (record { time = time; task = i + 1 }) (coming r)
    → coming r' ≡ ordered earlier (one_each (phases rows) (i + 1))
opened_more rows i time r r' l few e inv list =
    let xs : List Release = ordered earlier (one_each (phases rows) i) in
    let x : Release = record { time = time; task = i + 1 } in
    let long : length xs ≡ i = length_ordered earlier (one_each (phases rows) i) ∙ length_one_each (phases rows) i in
    let place : i ≡ suc i - 1 = omega arith in
    let t : time ≡ phases rows (suc i) = e ∙ ap (λ (k : ℕ). (get_or rows k blank).phase) place in
    let k : i + 1 ≡ suc i = add-one i in
    list ∙ ap (coming_list x) inv ∙ cond-false _ _ _ (lt-leb 32 (length xs) (omega arith))
    ∙ (λ j. placed earlier (record { time = t j; task = k j }) xs)
    ∙ ap (λ (n : ℕ). ordered earlier (one_each (phases rows) n)) (sym k)

first_time : (r : Row) → next_release r 0 ≡ r.phase
first_time r = omega arith

-- all rows
pub opened_all : (rows : List Row) (i : ℕ) (r : Releases) → i ≡ length rows → coming r ≡ ordered earlier (one_each (phases rows) i)
    → Awaited rows (replicate 32 no_counts) r
opened_all rows i r e inv =
    inv ∙ ap (λ (n : ℕ). ordered earlier (one_each (phases rows) n)) e
    ∙ ap (ordered earlier) (sym (same_one_each (phases rows) (next_time rows (replicate 32 no_counts)) (length rows)
    (λ k a b. ap (λ (c : TaskCounts). next_release (row_at k rows) c.released) (none_at 32 (k - 1)) ∙ first_time (row_at k rows))))

-- no release is before clock 0
pub opened_ahead : (rows : List Row) (tasks : List TaskCounts) → NoneBefore rows tasks 0
opened_ahead rows tasks i low high = omega arith
