use Rattle.std.proofs.Common.{◌+◌, ◌-◌, arith}
use Rattle.std.proofs.lemmas.List.Sorted.{length_permutation}
use Rattle.heap.proofs.Orders.{lawful, alike}
use Rattle.heap.proofs.Storing.{grown}
use Rattle.heap.proofs.slots.add.Goals as goal

pub returns-clause-after : goal.returns-clause-after
returns-clause-after g c =
    let e = g.T.HeapEntry in
    let m = g.met.T.HeapEntry in
    let told = c.sift_up.ensures in
    grown e.fields e.ahead (lawful e.fields e.ahead m.one m.neither m.chain) (alike e.fields e.ahead m.one m.neither m.chain)
    c.args.slots.now c.args.len (c.args.len + 1 - 0) c.args.x (omega arith) (omega arith) c.sift_up.new.heap told.heaped told.shuffled (length_permutation _ _ told.shuffled)
