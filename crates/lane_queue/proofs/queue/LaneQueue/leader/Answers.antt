use Rattle.std.proofs.Common.{◌≡◌, ℕ, ◌-◌, ◌^◌, ◌<◌, ◌≤◌, get_or, sym, ap, ◌∙◌, subst, arith}
use lib.Bits.{bit_and, and_le_l}
use lib.Count.{count_trailing_zeros}
use Rattle.std.proofs.lemmas.List.{get_or_default}
use Rattle.ready.specs.Order.{before}
use Rattle.lane_queue.specs.declared.lane.Lane.{Lane}
use Rattle.lane_queue.specs.Lanes.{head, empty}
use Rattle.lane_queue.specs.Words.{bit}
use Rattle.lane_queue.proofs.Bits.{bit-bit_and, bit_le, bit_none, lowest}
use Rattle.lane_queue.proofs.Leading as leading
use Rattle.lane_queue.proofs.queue.LaneQueue.leader.Goals as goal
use Rattle.lane_queue.proofs.queue.LaneQueue.leader.Goals.{then-leads, else-leads}

fewer : (k a b : ℕ) → bit k (bit_and a b) ≤ bit k a
fewer k a b = omega (arith, bit-bit_and k a b)

pub returns-then-self-eq0 : goal.returns-then-self-eq0
returns-then-self-eq0 c = let q = c.args.self.now in leading.idle q.lanes q.used q.marked c.if-self-eq0.true

pub loop-word-init : goal.loop-word-init
loop-word-init c =
    let q = c.args.self.now in
    let some : 0 < q.used = omega arith in
    let fits : q.used < 2 ^ 32 = omega arith in
    let low = lowest 32 q.used some fits in
    (omega (arith, and_le_l q.used (q.used - 1)), low.0, low.1, (λ k. fewer k q.used (q.used - 1)), leading.starts q.lanes q.used some fits)

pub loop-word-preserved : goal.loop-word-preserved
loop-word-preserved c =
    let q = c.args.self.now in
    let word = c.loop-word.word in
    let best = c.loop-word.best in
    let inv = c.loop-word.invariant in
    let some : 0 < word = omega arith in
    let fits : word < 2 ^ 32 = inv.0 in
    let low = lowest 32 word some fits in
    let i = count_trailing_zeros 32 word in
    let heads : c.leads.result ≡ before (head (get_or q.lanes i empty)) (head (get_or q.lanes best empty)) =
    c.leads.ensures ∙ ap (λ (l : Lane). before (head l) (head (get_or q.lanes best c.index-self-best.result))) (get_or_default q.lanes i c.index-self-i.result empty (omega (arith, q.whole, low.0)))
    ∙ ap (λ (l : Lane). before (head (get_or q.lanes i empty)) (head l)) (get_or_default q.lanes best c.index-self-best.result empty (omega (arith, q.whole, inv.1))) in
    let P : ℕ → Type 0 = λ b. (b < 32) × (bit b q.used ≡ 1) × leading.Compared q.lanes q.used (bit_and word (word - 1)) b in
    let new : P c.if-leads.best = elim c.if-leads.branch [
      | then-leads w ↦ subst P (sym w.best-is) (low.0, omega (arith, low.1, inv.3 i, bit_le i q.used), leading.changes q.lanes q.used word some fits best (sym heads ∙ w.if-leads.true) inv.4)
      | else-leads w ↦ subst P (sym w.best-is) (inv.1, inv.2, leading.stays q.lanes q.used word some fits best (sym heads ∙ w.if-leads.false) inv.4)
    ] in
    (omega (arith, and_le_l word (word - 1)), new.0, new.1, (λ k. omega (arith, fewer k word (word - 1), inv.3 k)), new.2)

pub returns : goal.returns
returns c =
    let q = c.args.self.now in
    let inv = c.loop-word.invariant in
    (omega (arith, q.whole, inv.1), leading.holds q.lanes q.used q.marked c.loop-word.best inv.2, λ k p. inv.4 k (leading.is_marked q.lanes q.used q.marked k p) (ap (bit k) c.loop-word-test.false ∙ bit_none k))
