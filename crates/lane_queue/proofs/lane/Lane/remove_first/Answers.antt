use Rattle.std.proofs.Common.{◌≡◌, ◌-◌, ◌<◌, List, ◌∷◌, ◌++◌, get_or, take, drop, ◌∙◌, subst, arith}
use Rattle.std.proofs.lemmas.List.{length-append, length-drop, length-take-le}
use Rattle.ready.specs.declared.job.Job.{Job}
use Rattle.ready.specs.Order.{before}
use Rattle.ready.specs.Sorted.{ordered, Sorted}
use Rattle.ready.proofs.Orderings as orderings
use Rattle.ready.proofs.Urgency.{before_one_way, not_before_chain}
use Rattle.lane_queue.specs.declared.lane.Lane.{Lane}
use Rattle.lane_queue.specs.Lanes.{blank}
use Rattle.lane_queue.proofs.Rows as rows
use Rattle.lane_queue.proofs.lane.Lane.remove_first.Goals as goal

module _ (l : Lane) (ys : List Job) (some : 0 < l.len) (after : ys ≡ drop 1 (take (l.len - 0) l.jobs) ++ take 1 (take (l.len - 0) l.jobs)) where
  left : take l.len l.jobs ≡ get_or l.jobs 0 blank ∷ take (l.len - 1) (ys ++ drop (l.len - 0) l.jobs)
  left = rows.turned_out l.jobs l.len (l.len - 0) blank ys (omega arith) some (omega (arith, l.whole, l.within)) after

  still : ordered before (take (l.len - 1) (ys ++ drop (l.len - 0) l.jobs)) ≡ take (l.len - 1) (ys ++ drop (l.len - 0) l.jobs)
  still = orderings.ordered_sorted before _ (subst (Sorted before) left (orderings.sorted_from before before_one_way not_before_chain (take l.len l.jobs) l.sorted)).1

pub invariant_of-self : goal.invariant_of-self
invariant_of-self c =
    let l = c.args.self.now in
    let a = length-take-le (l.len - 0) l.jobs (omega (arith, l.whole, l.within)) in
    let b = length-drop (l.len - 0) l.jobs in
    record { whole = length-append c.rotate_left.new.self _ ∙ omega (arith, a, b, c.rotate_left.ensures.len, l.whole, l.within); within = omega (arith, l.within); sorted = still l c.rotate_left.new.self c.requires c.rotate_left.ensures.after }
