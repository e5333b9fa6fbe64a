-- The checksum, by number and by job.
use Rattle.std.specs.Prelude.{ℕ, ◌+◌, ◌*◌, ◌%◌, ◌^◌, List, [], ◌∷◌, Option, Some, None}
use Rattle.ready.specs.declared.job.Job.{Job}

-- the checksum with one number more
abbrev pub sum_with : ℕ → ℕ → ℕ
sum_with sum number = (sum * 1099511628211 % 2 ^ 64 + number) % 2 ^ 64

-- the numbers that stand for a job, or for none
abbrev pub numbers_of : Option Job → List ℕ
numbers_of (Some j) = j.key ∷ j.task ∷ j.number ∷ j.left ∷ []
numbers_of None = 1000003 ∷ []
