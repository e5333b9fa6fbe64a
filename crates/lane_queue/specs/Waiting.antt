-- What a queue of lanes means.
use Rattle.std.specs.Prelude.{List}
use Rattle.std.specs.List.{flat_map}
use Rattle.ready.specs.declared.job.Job.{Job}
use Rattle.ready.specs.Order.{before}
use Rattle.ready.specs.Sorted.{ordered}
use Rattle.lane_queue.specs.declared.queue.LaneQueue.{LaneQueue}
use Rattle.lane_queue.specs.Lanes.{lane_jobs}

-- the jobs of all lanes, most urgent first
unfoldable pub waiting_jobs : LaneQueue → List Job
waiting_jobs q = ordered before (flat_map lane_jobs q.lanes)
