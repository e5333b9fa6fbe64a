use Rattle.std.proofs.Common.{sym, refl, ◌∙◌, subst}
use Rattle.rules.specs.Accounts.{NumbersFit}
use Rattle.duty_bench.specs.Awaited.{Awaits}
use Rattle.duty_bench.specs.Model.{bench_of, judged_rows, state_of}
use Rattle.duty_bench.proofs.Reaching.{may_step, reached_step, fits_of}
use Rattle.duty_bench.proofs.Steps.{no_miss, step_state, step_answer}
use Rattle.duty_bench.proofs.bench.Bench.step.Goals as goal

pub advance-requires-clause-midway : goal.advance-requires-clause-midway
advance-requires-clause-midway g c =
    may_step g.Q.ReadyQueue.waiting c.self.inside.judged c.self.inside.coming c.self.inside.parts c.self.invariant c.in_default.not-Stopped c.if-self-eq-LAST_CLOCK.false

pub invariant_of-self : goal.invariant_of-self
invariant_of-self g c =
    let w = g.Q.ReadyQueue.waiting in
    let p = c.self.inside.parts in
    let rows = judged_rows c.self.inside.judged in
    let read = sym c.in_ok-letter.was ∙ c.try_from.ensures in
    record {
      reached = reached_step (bench_of w c.self.inside.judged p) _ c.args.letter c.self.invariant.reached refl
          (step_state c.rows.result.now rows c.args.letter c.in_ok-letter.letter (state_of w p) c.rows.ensures (no_miss p.stage c.in_default.not-Stopped) c.if-self-eq-LAST_CLOCK.false read
          (state_of w c.advance.new.self) c.advance.ensures.is);
      awaits = subst (λ l. Awaits l c.advance.new.self.tasks c.advance.new.self.clock c.advance.new.coming) c.rows.ensures c.advance.ensures.awaits;
      settled = c.advance.ensures.settled;
    }

pub returns : goal.returns
returns g c =
    let w = g.Q.ReadyQueue.waiting in
    let p = c.self.inside.parts in
    let rows = judged_rows c.self.inside.judged in
    let s = state_of w p in
    let miss = no_miss p.stage c.in_default.not-Stopped in
    let read = sym c.in_ok-letter.was ∙ c.try_from.ensures in
    rw (← c.self.view_is) (record {
      state = step_state c.rows.result.now rows c.args.letter c.in_ok-letter.letter s c.rows.ensures miss c.if-self-eq-LAST_CLOCK.false read _ c.advance.ensures.is;
      answer = step_answer c.rows.result.now rows c.args.letter c.in_ok-letter.letter s c.rows.ensures miss c.if-self-eq-LAST_CLOCK.false read _ c.advance.ensures.outcome;
      rows = refl;
      fits = fits_of _ (invariant_of-self g c).reached;
      reached = (invariant_of-self g c).reached;
    })

pub returns-in-Stopped-clause-fits : goal.returns-in-Stopped-clause-fits
returns-in-Stopped-clause-fits g c =
    subst (λ b. NumbersFit b.rows b.state) c.self.view_is
    (fits_of (bench_of g.Q.ReadyQueue.waiting c.self.inside.judged c.self.inside.parts) c.self.invariant.reached)

pub returns-then-self-eq-LAST_CLOCK-clause-fits : goal.returns-then-self-eq-LAST_CLOCK-clause-fits
returns-then-self-eq-LAST_CLOCK-clause-fits g c =
    subst (λ b. NumbersFit b.rows b.state) c.self.view_is
    (fits_of (bench_of g.Q.ReadyQueue.waiting c.self.inside.judged c.self.inside.parts) c.self.invariant.reached)

pub returns-in_err-letter-clause-fits : goal.returns-in_err-letter-clause-fits
returns-in_err-letter-clause-fits g c =
    subst (λ b. NumbersFit b.rows b.state) c.self.view_is
    (fits_of (bench_of g.Q.ReadyQueue.waiting c.self.inside.judged c.self.inside.parts) c.self.invariant.reached)
