use Rattle.std.proofs.Common.{◌≡◌, map, take}
use Rattle.rules.specs.declared.call.Call.TheVariants.{Step}
use Rattle.rules.specs.Run.{run_from}
use Rattle.duty_bench.proofs.bench.Bench.feed.Given as goal

-- the letters so far have been stepped with
abbrev pub invariant-loop-letter : goal.invariant-loop-letter
invariant-loop-letter g l =
    (l.self.rows ≡ l.initial.self.rows)
    × (l.self.state ≡ run_from l.initial.self.rows (map Step (take l.letter-index l.letters)) l.initial.self.state)
