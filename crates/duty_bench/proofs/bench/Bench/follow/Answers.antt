use Rattle.std.proofs.Common.{◌≡◌, ◌-◌, length, take, ◌∙◌, rules}
use Rattle.duty_bench.proofs.Calls.{more_letters}
use Rattle.duty_bench.proofs.bench.Bench.follow.Goals as goal

pub returns-in_err-feed : goal.returns-in_err-feed
returns-in_err-feed g c =
    record {
      state =
          more_letters (take c.feed.ensures.state.0 (take (c.in_ok-count.count - 0) c.read.new.buf)) c.args.self.now.rows c.loop.self.rows c.args.self.now.state c.loop.self.state _
          c.loop.invariant.1 c.loop.invariant.2 c.feed.ensures.state.1;
      rows = c.feed.ensures.rows ∙ c.loop.invariant.1;
    }

pub returns-in_err-flush : goal.returns-in_err-flush
returns-in_err-flush g c =
    record {
      state =
          more_letters (take c.feed.ensures.state.0 (take (c.in_ok-count.count - 0) c.read.new.buf)) c.args.self.now.rows c.loop.self.rows c.args.self.now.state c.loop.self.state _
          c.loop.invariant.1 c.loop.invariant.2 c.feed.ensures.state.1;
      rows = c.feed.ensures.rows ∙ c.loop.invariant.1;
    }

pub loop-preserved : goal.loop-preserved
loop-preserved g c =
    let long : length c.read.new.buf ≡ 4096 = search rules in (
      long,
      c.feed.ensures.rows ∙ c.loop.invariant.1,
      more_letters (take c.feed.ensures.state.0 (take (c.in_ok-count.count - 0) c.read.new.buf)) c.args.self.now.rows c.loop.self.rows c.args.self.now.state c.loop.self.state _
          c.loop.invariant.1 c.loop.invariant.2 c.feed.ensures.state.1,
    )
