-- Every tick is idle or given to a task.
use Rattle.std.proofs.Common.{suc, List, length, refl, subst, arith}
use Rattle.std.specs.List.{AllByRecursion}
use Rattle.sheet.specs.declared.row.Row.{Row}
use Rattle.sheet.specs.Tables.{rows_of}
use Rattle.rules.specs.Tick.{event_at}
use Rattle.rules.specs.Promises.{EveryRun}
use Rattle.rules.specs.Accounts.{Proper, TimeAccounted}
use Rattle.rules.proofs.Tasks.{given_release, given_tick, opened_sum}
use Rattle.rules.proofs.Kept.{ruled}
use Rattle.rules.proofs.Ticks.{turn_pending}
use Rattle.rules.proofs.Induction.{Any, Keeps, kept_by_every_run}

time_kept : (rows : List Row) → Keeps rows Any (TimeAccounted rows)
time_kept rows = record {
  at_opening = omega (arith, opened_sum (λ k. k.given) refl (length rows));
  by_release = λ n s in' kept unmissed now e. omega (arith, given_release (suc n) s.tasks (omega arith) (omega (arith, kept.size)));
  by_idle = λ s kept turn e. omega arith;
  by_work = λ s kept c l a x j holds js turn e.
      let p : Proper rows s j = (subst (AllByRecursion (Proper rows s)) (turn_pending s.hand s.waiting j holds js turn) kept.proper).0 in
      omega (arith, given_tick (event_at rows l j holds) j.task s.tasks p.low (omega (arith, kept.size, p.high)));
}

pub every_time : EveryRun TimeAccounted
every_time t calls = kept_by_every_run (rows_of t) (ruled t) (TimeAccounted (rows_of t)) (time_kept (rows_of t)) calls
