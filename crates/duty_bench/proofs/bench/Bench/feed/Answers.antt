use Rattle.std.proofs.Common.{◌+◌, ◌∙◌}
use Rattle.duty_bench.proofs.Calls.{next_letter}
use Rattle.duty_bench.proofs.bench.Bench.feed.Goals as goal

pub returns-in_err-print : goal.returns-in_err-print
returns-in_err-print g c =
    record {
      state = (
        c.loop-letter.letter-index + 1,
        next_letter c.args.self.now.rows c.loop-letter.self.rows c.args.letters.now c.loop-letter.letter-index c.from.result
            c.args.self.now.state c.loop-letter.self.state c.step.new.self.state c.loop-letter-test.true
            c.loop-letter.invariant.0 c.from.ensures c.step.ensures.state c.loop-letter.invariant.1,
      );
      rows = c.step.ensures.rows ∙ c.loop-letter.invariant.0;
    }

pub loop-letter-preserved : goal.loop-letter-preserved
loop-letter-preserved g c = (
  c.step.ensures.rows ∙ c.loop-letter.invariant.0,
  next_letter c.args.self.now.rows c.loop-letter.self.rows c.args.letters.now c.loop-letter.letter-index c.from.result
      c.args.self.now.state c.loop-letter.self.state c.step.new.self.state c.loop-letter-test.true
      c.loop-letter.invariant.0 c.from.ensures c.step.ensures.state c.loop-letter.invariant.1,
)
