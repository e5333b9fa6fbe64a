use Rattle.std.proofs.Common.{get_or, drop, Some, sym, ap, ◌∙◌}
use Rattle.std.proofs.lemmas.List.{get_or_default}
use Rattle.ready.specs.Waiting.{first_of}
use Rattle.lane_queue.specs.declared.lane.Lane.{Lane}
use Rattle.lane_queue.specs.Lanes.{lane_jobs, head, empty}
use Rattle.lane_queue.specs.Waiting.{waiting_jobs}
use Rattle.lane_queue.proofs.Takes as takes
use Rattle.lane_queue.proofs.queue.operations.LaneQueueReadyQueue.first.Goals as goal

pub returns-in_err-i : goal.returns-in_err-i
unfolding waiting_jobs
returns-in_err-i c = c.from_residual.ensures ∙ sym (ap first_of (takes.idle_ordered c.args.self.now.lanes c.in_err-i.ensures))

pub returns : goal.returns
unfolding waiting_jobs
returns c =
    let q = c.args.self.now in
    let i = c.in_ok-i.i in
    let leads = c.in_ok-i.ensures in
    let lane = get_or q.lanes i empty in
    ap (λ (l : Lane). Some (head l)) (get_or_default q.lanes i c.index-self-i.result empty leads.0)
    ∙ sym (ap first_of (takes.leader_first q.lanes q.owned i leads (head lane) (drop 1 (lane_jobs lane)) (takes.head_first lane leads.1)))
