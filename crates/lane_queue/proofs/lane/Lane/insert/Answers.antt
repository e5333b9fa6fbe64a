use Rattle.std.proofs.Common.{◌≡◌, ℕ, ◌+◌, ◌-◌, ◌<◌, ◌≤◌, List, ◌∷◌, ◌++◌, length, take, drop, set, sym, ap, ◌∙◌, subst, arith}
use borrow.Rule.Slice.PartMut.{put_mid, same_len_mid}
use Rattle.std.specs.List.{prefix_len}
use Rattle.std.proofs.lemmas.List.{length-set, length-take-le}
use Rattle.ready.specs.declared.job.Job.{Job}
use Rattle.ready.specs.Order.{before}
use Rattle.ready.specs.Sorted.{ordered, placed, Sorted}
use Rattle.ready.proofs.Orderings as orderings
use Rattle.ready.proofs.Urgency.{before_one_way, not_before_chain}
use Rattle.lane_queue.specs.declared.lane.Lane.{Lane}
use Rattle.lane_queue.proofs.Rows as rows
use Rattle.lane_queue.proofs.lane.Lane.insert.Goals as goal

module _ (l : Lane) (job : Job) (a : ℕ) (ys : List Job) (room : l.len < 4) (within : a ≤ length (take (l.len - 0) l.jobs)) (is : a ≡ prefix_len (λ other. before other job) (take (l.len - 0) l.jobs))
    (after : (let mid = take (l.len + 1 - a) (drop a (set l.jobs l.len job)) in ys ≡ drop (length mid - 1) mid ++ take (length mid - 1) mid)) where
  splits : placed before job (take (l.len - 0) l.jobs) ≡ take a (take (l.len - 0) l.jobs) ++ job ∷ drop a (take (l.len - 0) l.jobs)
  splits = let row = take (l.len - 0) l.jobs in orderings.placed_behind_prefix before job row ∙ ap (λ n. take n row ++ job ∷ drop n row) (sym is)

  then : take (l.len + 1) (put_mid a (l.len + 1 - a) (set l.jobs l.len job) ys) ≡ placed before job (take l.len l.jobs)
  then =
      let e : l.len - 0 ≡ l.len = omega arith in
      let le : a ≤ l.len = omega (arith, length-take-le (l.len - 0) l.jobs (omega (arith, l.whole, l.within))) in
      rows.turned_in l.jobs l.len a job (omega (arith, l.whole)) le ys after
      ∙ sym (ap (λ n. placed before job (take n l.jobs)) (sym e) ∙ splits ∙ ap (λ n. take a (take n l.jobs) ++ job ∷ drop a (take n l.jobs)) e)

  still : ordered before (take (l.len + 1) (put_mid a (l.len + 1 - a) (set l.jobs l.len job) ys)) ≡ take (l.len + 1) (put_mid a (l.len + 1 - a) (set l.jobs l.len job) ys)
  still = orderings.ordered_sorted before _ (subst (Sorted before) (sym then) (orderings.sorted_placed before before_one_way not_before_chain job (take l.len l.jobs) (orderings.sorted_from before before_one_way not_before_chain (take l.len l.jobs) l.sorted)))

pub invariant_of-self : goal.invariant_of-self
invariant_of-self c =
    let l = c.args.self.now in
    let J = set l.jobs l.len c.args.job in
    record { whole = same_len_mid c.place-at.result (l.len + 1 - c.place-at.result) J c.rotate_right.new.self c.rotate_right.ensures.len ∙ length-set l.jobs l.len c.args.job ∙ l.whole; within = omega (arith, c.requires); sorted = still l c.args.job c.place-at.result c.rotate_right.new.self c.requires c.place-at.ensures.within c.place-at.ensures.in_front c.rotate_right.ensures.after }

pub returns-clause-jobs : goal.returns-clause-jobs
returns-clause-jobs c = then c.args.self.now c.args.job c.place-at.result c.rotate_right.new.self c.requires c.place-at.ensures.within c.place-at.ensures.in_front c.rotate_right.ensures.after
