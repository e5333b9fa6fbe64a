use Rattle.std.proofs.Common.{◌≡◌, ℕ, List, map, length}
use Rattle.rules.specs.declared.call.Call.TheVariants.{Step}
use Rattle.rules.specs.Run.{run_from}
use Rattle.duty_bench.proofs.bench.Bench.follow.Given as goal

-- some letters have been read, and stepped with
abbrev pub invariant-loop : goal.invariant-loop
invariant-loop g l =
    (length l.chunk ≡ 4096)
    × (l.self.rows ≡ l.initial.self.rows)
    × ((letters : List ℕ) × (l.self.state ≡ run_from l.initial.self.rows (map Step letters) l.initial.self.state))
