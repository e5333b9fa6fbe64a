-- The period that a code names.
use Rattle.std.proofs.Common.{unwrap_or, ◌≡◌, ℕ, ◌≤◌, true, false, cond, Some, None, ap, arith}
use Rattle.std.proofs.lemmas.Bool.Decides.{nat_tests}
use Rattle.periods.specs.Periods.{cycle, no_entry, period_of, named}
use Rattle.periods.proofs.Divisors.{within_cycle}

pub entry_low : (code : ℕ) → no_entry code ≡ false → 1 ≤ code
entry_low code e = grind (arith, nat_tests)

pub entry_high : (code : ℕ) → no_entry code ≡ false → code ≤ 240
entry_high code e = grind (arith, nat_tests)

pub entry_within : (code : ℕ) → no_entry code ≡ false → period_of code ≤ cycle
entry_within code e = within_cycle code (entry_low code e) (entry_high code e)

pub entry_named : (code : ℕ) → no_entry code ≡ false → unwrap_or (named code) 0 ≡ period_of code
entry_named code e = ap (λ b. unwrap_or (cond b None (Some (period_of code))) 0) e

-- a code that names a period has an entry, and the period is within the cycle
pub named_entry : (code period : ℕ) → named code ≡ Some period → no_entry code ≡ false
named_entry code period h = grind arith

pub no_name : (code : ℕ) → named code ≡ None → no_entry code ≡ true
no_name code h = grind arith

pub named_within : (code period : ℕ) → named code ≡ Some period → period ≤ cycle
named_within code period h =
    let e = named_entry code period h in
    let w = entry_within code e in
    grind arith
