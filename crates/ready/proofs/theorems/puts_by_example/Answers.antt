use Rattle.std.proofs.Common.{◌≡◌, ℕ, ◌≤◌, true, false, arith}
use Rattle.ready.proofs.theorems.puts_by_example.Goals as goal

never : true ≡ false → ⊥
never e = let z : ◌≡◌ {A = ℕ} 0 1 = cc in omega arith

pub returns-clause-unlawful : goal.returns-clause-unlawful
returns-clause-unlawful c = record {
  disordered = λ l. never l.sorted.0.0;
  unknown = λ l. never l.known.0;
  twice = λ l. let e : 2 ≤ 1 = l.once 7 1 in omega arith;
  five = λ l. let e : 5 ≤ 4 = l.four 7 in omega arith;
}
