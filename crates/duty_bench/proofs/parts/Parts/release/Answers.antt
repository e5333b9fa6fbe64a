use Rattle.std.proofs.Common.{◌+◌, ◌-◌, sym, ap, ◌∙◌, subst, arith, length, length-set}
use Rattle.sheet.specs.declared.row.Row.{Row}
use Rattle.heap.specs.Releases.{coming_list}
use Rattle.ready.specs.Waiting.{put_list}
use Rattle.duty_bench.specs.Awaited.{Awaits}
use Rattle.duty_bench.specs.Bounds.{Counted}
use Rattle.duty_bench.specs.Model.{hand_of, miss_of, state_of}
use Rattle.duty_bench.proofs.Due.{soon, within, counted_after, awaits_after}
use Rattle.duty_bench.proofs.parts.Parts.release.Goals as goal

pub count_release-number-requires : goal.count_release-number-requires
count_release-number-requires g c = record {
  within = within c.args.rows.now (state_of g.Q.ReadyQueue.waiting c.args.self.now) c.args.coming.now c.requires.awaits c.args.task c.requires.due c.requires.midway.whole;
  counted = λ k. omega (arith, (c.requires.midway.tasks k).0, c.requires.midway.early);
}

pub overflow_add-self : goal.overflow_add-self
overflow_add-self g c =
    let most = soon c.args.rows.now c.requires.awaits.lawful c.args.task in
    omega (arith, ap (λ (r : Row). r.deadline) c.row_of-row.ensures, ap (λ (r : Row). r.period) c.row_of-row.ensures, most.0, most.1, c.requires.midway.early)

pub overflow_add-self-2 : goal.overflow_add-self-2
overflow_add-self-2 g c =
    let most = soon c.args.rows.now c.requires.awaits.lawful c.args.task in
    omega (arith, ap (λ (r : Row). r.deadline) c.row_of-row.ensures, ap (λ (r : Row). r.period) c.row_of-row.ensures, most.0, most.1, c.requires.midway.early)

pub returns : goal.returns
returns g c =
    let w = g.Q.ReadyQueue.waiting in
    let p = c.args.self.now in
    let i = c.args.task in
    let m = c.requires.midway in
    let counts = c.count_release-number.ensures.counts in
    record {
      is = λ k. record {
        clock = p.clock;
        waiting = (c.put.ensures.list
            ∙ (λ n. put_list (record { key = p.clock + (c.row_of-row.ensures n).deadline; task = i; number = c.count_release-number.ensures.number n; left = (c.row_of-row.ensures n).execution }) (w p.queue))) k;
        hand = hand_of p.stage;
        previous = p.previous;
        tasks = counts k;
        counts = p.counts;
        miss = miss_of p.stage;
      };
      midway = record {
        running = m.running;
        early = m.early;
        whole = ap length counts ∙ length-set p.tasks (i - 1) _ ∙ m.whole;
        tasks = subst (Counted (p.clock + 1) p.clock) (sym counts) (counted_after c.args.rows.now (state_of w p) c.args.coming.now c.requires.awaits i c.requires.due m.whole m.tasks);
        idle = m.idle;
        begun = m.begun;
        interruptions = m.interruptions;
      };
      awaits = subst (λ tasks. Awaits c.args.rows.now tasks p.clock c.add.new.self) (sym counts)
          (awaits_after c.args.rows.now (state_of w p) c.args.coming.now c.requires.awaits i c.requires.due m.whole c.add.new.self
          (c.add.ensures.list ∙ (λ n. coming_list (record { time = p.clock + (c.row_of-row.ensures n).period; task = i }) (c.take.ensures.list n))));
    }
