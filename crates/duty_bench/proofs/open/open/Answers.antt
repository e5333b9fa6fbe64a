use Rattle.std.proofs.Common.{[], replicate, sym, refl, ap, subst}
use Rattle.duty_bench.specs.Model.{judged_rows}
use Rattle.duty_bench.specs.Awaited.{Awaited}
use Rattle.duty_bench.specs.Bounds.{Counted}
use Rattle.duty_bench.proofs.FirstReleases.{opened_ahead}
use Rattle.duty_bench.proofs.Openings.{all_none, counted_none, is_opened, rows_few}
use Rattle.duty_bench.proofs.open.open.Goals as goal

pub invariant_of-result : goal.invariant_of-result
invariant_of-result g c =
    let rows = judged_rows c.args.judged in
    let none = ap (replicate 32) (sym (all_none c.default.result c.default.ensures)) in
    record {
      reached = record {
        table = c.args.judged.table;
        calls = [];
        rows = refl;
        state = is_opened c.args.judged c.clear.ensures c.default.ensures c.default-2.ensures;
      };
      awaits = record {
        lawful = c.args.judged.table.lawful;
        few = rows_few c.args.judged;
        awaited = subst (λ tasks. Awaited rows tasks c.first_releases-coming.result) none c.first_releases-coming.ensures;
        none_before = opened_ahead rows (replicate 32 c.default.result);
      };
      settled = record { whole = refl; counted = subst (Counted 0 0) none (counted_none 32) };
    }

pub returns : goal.returns
returns g c = record {
  rows = refl;
  state = is_opened c.args.judged c.clear.ensures c.default.ensures c.default-2.ensures;
  reached = (invariant_of-result g c).reached;
}
