-- Lanes, by the jobs that they hold.
use Rattle.std.specs.Prelude.{◌≡◌, ℕ, ◌<◌, Bool, false, List, length, get_or, take, replicate, ◌==◌, slice_index_or, refl}
use Rattle.std.proofs.Common.{zero-le}
use Rattle.ready.specs.declared.job.Job.{Job}
use Rattle.ready.specs.Order.{before}
use Rattle.lane_queue.specs.declared.lane.Lane.{Lane}

-- the jobs of a lane, most urgent first
abbrev pub lane_jobs : Lane → List Job
lane_jobs l = take l.len l.jobs

-- the job has that number
abbrev pub of_number : ℕ → Job → Bool
of_number number j = j.number == number

-- what stands in a place without a job
abbrev pub blank : Job
blank = record { key = 0; task = 0; number = 0; left = 0 }

-- the most urgent job of a lane that holds one
abbrev pub head : Lane → Job
head l = slice_index_or l.jobs 0 blank

-- a lane without jobs
abbrev pub empty : Lane
empty = record { jobs = replicate 4 blank; len = 0; whole = refl; within = zero-le; sorted = refl }

-- no lane holds a job
abbrev pub Idle : List Lane → Type 0
Idle ls = (k : ℕ) → (get_or ls k empty).len ≡ 0

-- lane i holds a job, and no job that a lane has in front is more urgent than its own
abbrev pub Leads : List Lane → ℕ → Type 0
Leads ls i =
    (i < length ls) × (0 < (get_or ls i empty).len)
    × ((k : ℕ) → 0 < (get_or ls k empty).len → before (head (slice_index_or ls k empty)) (head (slice_index_or ls i empty)) ≡ false)
