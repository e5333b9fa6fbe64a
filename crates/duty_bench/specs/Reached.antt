-- What is true of every bench.
use Rattle.std.specs.Prelude.{◌≡◌, List}
use Rattle.sheet.specs.declared.table.Table.{Table}
use Rattle.sheet.specs.Tables.{rows_of}
use Rattle.verdict.specs.declared.judged.Judged.{Judged}
use Rattle.ready.specs.declared.job.Job.{Job}
use Rattle.heap.specs.declared.releases.Releases.{Releases}
use Rattle.rules.specs.declared.call.Call.{Call}
use Rattle.rules.specs.Run.{after_run}
use Rattle.duty_bench.specs.declared.parts.Parts.{Parts}
use Rattle.duty_bench.specs.Model.{BenchState, bench_of, judged_rows}
use Rattle.duty_bench.specs.Awaited.{Awaits}
use Rattle.duty_bench.specs.Bounds.{Settled}

-- a run on a table leaves that bench: each law of every run is true of it
pub record Reached (b : BenchState) : Type 0 where
  pub table : Table
  pub calls : List Call
  pub rows : b.rows ≡ rows_of table
  pub state : b.state ≡ after_run b.rows calls

-- what a bench keeps: a run leaves it, the next releases of its rows are awaited, and no task has counted more than the clock says
pub record Kept {Q : Type 0} (waiting : Q → List Job) (judged : Judged) (r : Releases) (p : Parts Q) : Type 0 where
  pub reached : Reached (bench_of waiting judged p)
  pub awaits : Awaits (judged_rows judged) p.tasks p.clock r
  pub settled : Settled p.clock p.tasks
