-- Which job a job is.
use Rattle.ready.specs.declared.job.Job.{Job}
use Rattle.ready.specs.declared.job.JobId.{JobId}

-- a job's task and number
abbrev pub id_of : Job → JobId
id_of j = record { task = j.task; number = j.number }
