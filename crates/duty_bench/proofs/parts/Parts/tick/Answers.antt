use Rattle.std.proofs.Common.{◌≡◌, ap, ◌∙◌}
use Rattle.rules.specs.State.{State}
use Rattle.rules.specs.Tick.{turn_of, after_turn, checked, missed, miss_line}
use Rattle.duty_bench.specs.Model.{state_of}
use Rattle.duty_bench.specs.Stages.{picked, started, moved, line_by}
use Rattle.duty_bench.proofs.Turns.{turn_moved, turn_line}
use Rattle.duty_bench.proofs.parts.Parts.tick.Goals as goal

pub returns : goal.returns
returns g c =
    let w = g.Q.ReadyQueue.waiting in
    let rows = c.args.rows.now in
    let l = c.args.letter in
    let s : State = state_of w c.args.self.now in
    let began : state_of w c.begin.new.self ≡ started rows (picked s) = c.begin.ensures.is ∙ ap (started rows) c.pick.ensures.is in
    let worked : state_of w c.work-tick.new.self ≡ after_turn rows l (turn_of s.hand s.waiting) s =
    c.work-tick.ensures.is ∙ ap (moved rows l) began ∙ turn_moved rows l s in
    record {
      is = c.check-miss.ensures.is ∙ ap checked worked;
      outcome = λ i. record {
        tick = (c.work-tick.ensures.line ∙ ap (λ x. line_by rows l x.hand x.clock) began ∙ turn_line rows l s) i;
        miss = (c.check-miss.ensures.line ∙ ap (λ x. miss_line (missed x)) worked) i;
      };
    }
