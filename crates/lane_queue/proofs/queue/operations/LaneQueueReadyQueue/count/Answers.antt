use Rattle.std.proofs.Common.{sym, ◌∙◌}
use Rattle.std.specs.List.{flat_map}
use Rattle.ready.specs.Order.{before}
use Rattle.ready.proofs.Orderings.{length_ordered}
use Rattle.lane_queue.specs.Lanes.{lane_jobs}
use Rattle.lane_queue.specs.Waiting.{waiting_jobs}
use Rattle.lane_queue.proofs.queue.operations.LaneQueueReadyQueue.count.Goals as goal

pub returns : goal.returns
unfolding waiting_jobs
returns c = let q = c.args.self.now in q.counted ∙ sym (length_ordered before (flat_map lane_jobs q.lanes))
