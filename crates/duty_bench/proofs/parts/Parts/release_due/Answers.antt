use Rattle.std.proofs.Common.{sym, ap, ◌∙◌, subst, ◌<◌}
use Rattle.rules.specs.Release.{released}
use Rattle.duty_bench.specs.Model.{state_of}
use Rattle.duty_bench.proofs.Due.{due_count, all_out, none_left, released_on, fewer_left}
use Rattle.duty_bench.proofs.parts.Parts.release_due.Goals as goal

pub loop-task-smaller : goal.loop-task-smaller
loop-task-smaller g c =
    let rows = c.args.rows.now in
    let s = state_of g.Q.ReadyQueue.waiting c.loop-task.self in
    subst (λ n. n < due_count rows s) (ap (due_count rows) (sym c.release.ensures.is))
    (fewer_left rows s c.loop-task.coming c.loop-task.invariant.2 c.in-Some.task (sym c.in-Some.ensures) c.loop-task.invariant.1.whole)

pub loop-task-preserved : goal.loop-task-preserved
loop-task-preserved g c =
    let rows = c.args.rows.now in
    let s = state_of g.Q.ReadyQueue.waiting c.loop-task.self in (
      ap (released rows) c.release.ensures.is
          ∙ released_on rows s c.loop-task.coming c.loop-task.invariant.2 c.in-Some.task (sym c.in-Some.ensures) c.loop-task.invariant.1.whole
          ∙ c.loop-task.invariant.0,
      c.release.ensures.midway,
      c.release.ensures.awaits,
    )

pub returns : goal.returns
returns g c =
    let rows = c.args.rows.now in
    let s = state_of g.Q.ReadyQueue.waiting c.loop-task.self in
    record {
      is = none_left rows s c.loop-task.coming c.loop-task.invariant.2 (sym c.in_default.ensures) ∙ c.loop-task.invariant.0;
      midway = c.loop-task.invariant.1;
      awaits = all_out rows s c.loop-task.coming c.loop-task.invariant.2 (sym c.in_default.ensures);
    }
