use Rattle.std.proofs.Common.{length, sym, refl, ap}
use Rattle.ready.specs.Order.{before}
use Rattle.ready.specs.Sorted.{ordered}
use Rattle.lane_queue.specs.Waiting.{waiting_jobs}
use Rattle.lane_queue.proofs.Fresh as fresh
use Rattle.lane_queue.proofs.queue.LaneQueue.new.Goals as goal

pub invariant_of-result : goal.invariant_of-result
invariant_of-result c =
    let l = c.new.result in
    let e = c.new.ensures in
    record { whole = refl; marked = fresh.fresh_marked l e 32; counted = sym (ap length (fresh.fresh_jobs l e 32)); owned = fresh.fresh_owned l e 32; once = fresh.fresh_once l e 32 }

pub returns : goal.returns
unfolding waiting_jobs
returns c = ap (ordered before) (fresh.fresh_jobs c.new.result c.new.ensures 32)
