-- Jobs as entries of a heap.
use Rattle.std.specs.Prelude.{ℕ, List, [], ◌∷◌}
use Rattle.ready.specs.declared.job.Job.{Job}

-- the order fields of a job
abbrev pub job_fields : Job → List ℕ
job_fields j = j.key ∷ j.task ∷ j.number ∷ []
