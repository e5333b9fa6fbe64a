use Rattle.std.proofs.Common.{◌+◌, Some, None, sym, ap, ◌∙◌}
use Rattle.ready.specs.Waiting.{put_list}
use Rattle.duty_bench.specs.Model.{miss_of}
use Rattle.duty_bench.proofs.parts.Parts.put_back.Goals as goal

pub returns-clause-is : goal.returns-clause-is
returns-clause-is g c i = record {
  clock = c.args.self.now.clock + 1;
  waiting = (c.put.ensures.list ∙ ap (λ j. put_list j (g.Q.ReadyQueue.waiting c.args.self.now.queue)) c.worked-back.ensures) i;
  hand = None;
  previous = Some (c.id.ensures i);
  tasks = c.credit.ensures i;
  counts = c.args.self.now.counts;
  miss = sym (ap miss_of c.requires.hand.1) i;
}
