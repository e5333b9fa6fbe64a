use Rattle.std.proofs.Common.{◌-◌, arith}
use Rattle.std.proofs.lemmas.List.Sorted.{length_permutation}
use Rattle.heap.proofs.Orders.{lawful, alike}
use Rattle.heap.proofs.Storing.{shrunk}
use Rattle.heap.proofs.slots.remove.Goals as goal

pub returns-clause-after : goal.returns-clause-after
returns-clause-after g c =
    let e = g.T.HeapEntry in
    let m = g.met.T.HeapEntry in
    let told = c.sift_down.ensures in
    shrunk e.fields e.ahead (lawful e.fields e.ahead m.one m.neither m.chain) (alike e.fields e.ahead m.one m.neither m.chain)
    c.args.slots.now c.args.len (c.args.len - 1 - 0) c.index-slots-0.result c.index-slots-len.result (omega arith) (omega arith) (omega arith) c.index-slots-0.is c.index-slots-len.is c.sift_down.new.heap told.heaped told.shuffled (length_permutation _ _ told.shuffled)
