use Rattle.std.proofs.Common.{◌≡◌, ◌≤◌, take, count_by}
use Rattle.ready.specs.Waiting.{is_job, of_task}
use Rattle.ready.proofs.put.check_put.Given as goal

-- the job is not among those that were looked at, and so many of them are of its task
abbrev pub invariant-loop-other : goal.invariant-loop-other
invariant-loop-other l =
    let seen = take l.other-index l.waiting in
    record {
      new : count_by (is_job l.job.task l.job.number) seen ≡ 0;
      counted : l.of_its_task ≡ count_by (of_task l.job.task) seen;
      short : l.of_its_task ≤ l.other-index;
    }
