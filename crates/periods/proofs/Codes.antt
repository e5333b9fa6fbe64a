-- Which codes name an entry.
use Rattle.std.proofs.Common.{◌≡◌, ℕ, ◌≤◌, false, cond, Some, None, ap, arith}
use Rattle.std.proofs.lemmas.Bool.Decides.{nat_tests}
use Rattle.periods.specs.Periods.{no_entry, period_of, named}

pub entry_from : (code : ℕ) → 1 ≤ code → code ≤ 240 → no_entry code ≡ false
entry_from code low high = grind (arith, nat_tests)

pub named_some : (code : ℕ) → 1 ≤ code → code ≤ 240 → named code ≡ Some (period_of code)
named_some code low high = ap (λ b. cond b None (Some (period_of code))) (entry_from code low high)
