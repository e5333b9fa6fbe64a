-- Every released job has begun, or it pends with all its units left.
use Rattle.std.proofs.Common.{◌≡◌, ℕ, suc, ◌+◌, ◌-◌, ◌≤◌, Bool, false, cond, List, length, Ok, sum_by, count_by, refl, ap, ◌∙◌, subst, arith}
use Rattle.std.specs.List.{AllByRecursion}
use Rattle.std.proofs.lemmas.Bool.{eq-eqb, ne_eqb}
use Rattle.sheet.specs.declared.row.Row.{Row}
use Rattle.sheet.specs.Rows.{units}
use Rattle.sheet.specs.Tables.{rows_of}
use Rattle.verdict.specs.Test.{row_at}
use Rattle.ready.specs.declared.job.Job.{Job}
use Rattle.ready.specs.Waiting.{put_answer}
use Rattle.ready.proofs.Counting.{count_by_cons, count_by_no}
use Rattle.ready.proofs.Puts.{count_by_put}
use Rattle.duty_log.specs.declared.line.Event.{Event}
use Rattle.duty_log.specs.declared.line.Event.TheVariants.{PutBack, Held, Done, Idle}
use Rattle.rules.specs.declared.counts.TaskCounts.{TaskCounts}
use Rattle.rules.specs.State.{task_at}
use Rattle.rules.specs.Release.{next_job, with_release}
use Rattle.rules.specs.Tick.{worked, event_at, one_done, with_tick}
use Rattle.rules.specs.Promises.{EveryRun}
use Rattle.rules.specs.Accounts.{Proper, untouched, BegunCounted}
use Rattle.rules.proofs.Tasks.{sum_with_task, opened_sum}
use Rattle.rules.proofs.Kept.{Ruled, ruled}
use Rattle.rules.proofs.Releases.{count_pending_put, accepted}
use Rattle.rules.proofs.Ticks.{turn_pending, nobody_pending, Tells, event_tells, pending_after, put_back}
use Rattle.rules.proofs.Induction.{Any, Keeps, kept_by_every_run}

-- a job that is no longer counted once it has run
count_after_first : (p : Job → Bool) (e : Event) (j : Job) (left holds most : ℕ) (js : List Job) → Tells e left holds most
    → p j ≡ false → put_answer j js ≡ Ok tt → count_by p (pending_after e j holds js) ≡ count_by p js
count_after_first p Done j left holds most js t not fits = refl
count_after_first p PutBack j left holds most js t not fits =
    count_by_put j js p fits ∙ ap (λ (b : Bool). cond b 1 0 + count_by p js) not ∙ omega arith
count_after_first p Held j left holds most js t not fits = count_by_no p j js not
count_after_first p Idle j left holds most js t not fits = absurd t

-- the jobs released, through a release and a tick
released_more : (i : ℕ) (tasks : List TaskCounts) → 1 ≤ i → i ≤ length tasks
    → sum_by (λ k. k.released) (with_release i tasks) ≡ sum_by (λ k. k.released) tasks + 1
released_more i tasks low high =
    omega (arith, sum_with_task i (record { released = (task_at i tasks).released + 1; done = (task_at i tasks).done; given = (task_at i tasks).given }) tasks (λ k. k.released) low high)

released_same : (e : Event) (i : ℕ) (tasks : List TaskCounts) → 1 ≤ i → i ≤ length tasks
    → sum_by (λ k. k.released) (with_tick e i tasks) ≡ sum_by (λ k. k.released) tasks
released_same e i tasks low high =
    omega (arith, sum_with_task i (record { released = (task_at i tasks).released; done = (task_at i tasks).done + one_done e; given = (task_at i tasks).given + 1 }) tasks (λ k. k.released) low high)

begun_kept : (rows : List Row) → Ruled rows → Keeps rows Any (BegunCounted rows)
begun_kept rows ok = record {
  at_opening = omega (arith, opened_sum (λ k. k.released) refl (length rows));
  by_release = λ n s in' kept unmissed now m.
      let whole : ◌≡◌ {A = ℕ} (cond (untouched rows (next_job rows (suc n) s)) 1 0) 1
      = ap (λ (b : Bool). cond b 1 0) (eq-eqb (units (row_at (suc n) rows)) (units (row_at (suc n) rows)) refl) in
      omega (
        arith,
        count_pending_put (untouched rows) s.hand (next_job rows (suc n) s) s.waiting (accepted rows ok n in' s kept unmissed now),
        released_more (suc n) s.tasks (omega arith) (omega (arith, kept.size)),
      );
  by_idle = λ s kept turn m. omega (arith, ap (count_by (untouched rows)) (nobody_pending s.hand s.waiting turn));
  by_work = λ s kept c l a x j holds js turn m.
      let split = turn_pending s.hand s.waiting j holds js turn in
      let p : Proper rows s j = (subst (AllByRecursion (Proper rows s)) split kept.proper).0 in
      let touched : untouched rows (worked j) ≡ false
      = ne_eqb (j.left - 1) (units (row_at j.task rows)) (λ e. omega (arith, p.some, p.most)) in
      omega (
        arith,
        ap (count_by (untouched rows)) split,
        count_by_cons (untouched rows) j js,
        count_after_first (untouched rows) (event_at rows l j holds) (worked j) (j.left - 1) holds (row_at j.task rows).hold js
            (event_tells l (j.left - 1) holds (row_at j.task rows).hold) touched (put_back rows ok s kept j holds js turn),
        released_same (event_at rows l j holds) j.task s.tasks p.low (omega (arith, kept.size, p.high)),
      );
}

pub every_begun : EveryRun BegunCounted
every_begun t calls = kept_by_every_run (rows_of t) (ruled t) (BegunCounted (rows_of t)) (begun_kept (rows_of t) (ruled t)) calls
