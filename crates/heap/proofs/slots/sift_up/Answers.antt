use Rattle.std.proofs.Common.{sym, arith}
use Rattle.std.proofs.lemmas.List.Sorted.{IsPermutation-trans}
use Rattle.heap.proofs.Orders.{lawful}
use Rattle.heap.proofs.Sifting as sifting
use Rattle.heap.proofs.slots.sift_up.Goals as goal

pub loop-at-preserved : goal.loop-at-preserved
loop-at-preserved g c =
    let e = g.T.HeapEntry in
    let m = g.met.T.HeapEntry in
    let l = c.loop-at in
    let told = c.swap.ensures in (
      omega arith,
      omega arith,
      λ h. sifting.rises e.ahead (lawful e.fields e.ahead m.one m.neither m.chain) l.heap c.swap.new.self told.len l.at c.loop-at-test.true (told.by_index.0, told.by_index.1, told.by_index.2) (λ d. sym (c.if-comes_before.ensures d)) (l.invariant.2 h),
      IsPermutation-trans c.args.heap.now l.heap c.swap.new.self l.invariant.3 told.permutation,
    )
