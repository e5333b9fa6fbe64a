-- The ranges of a table's rows, and how large the numbers of the test become.
use Rattle.std.proofs.Common.{◌≡◌, ℕ, ◌+◌, ◌-◌, ◌*◌, ◌/◌, ◌^◌, ◌<◌, ◌≤◌, true, List, [], ◌∷◌, length, get_or, drop, sum_by, le_trans, mul-le-mul, mul-le-mul_right, arith}
use native.Mathlib.Nat.{mul-div-le}
use Rattle.std.specs.List.{AllByRecursion}
use Rattle.std.proofs.ByRecursion.{All-drop, All-get_or, All-weaker, sum_by_le}
use Rattle.std.proofs.lemmas.List.Sums.{sum_by-take-le}
use Rattle.std.proofs.lemmas.Bool.{and_parts, eqb-true}
use Rattle.std.proofs.lemmas.Bool.Decides.{nat_tests}
use Rattle.periods.specs.Periods.{cycle, period_of}
use Rattle.periods.proofs.Divisors.{positive, within_cycle}
use Rattle.sheet.specs.declared.row.Row.{Row}
use Rattle.sheet.specs.Rows.{blank, broken, intact, lawful_row, lawful_after}
use Rattle.verdict.specs.Ranges.{InRange, most_load, most_shortfall}
use Rattle.verdict.specs.Test.{gap, load, shortfall, longest_hold, row_at, load_to, shortfall_to, blocking_after}
use Rattle.verdict.specs.Laws.{Small}

-- no row loads more than the cycle, since its execution is at most its period
pub load_most : (r : Row) → InRange r → load r ≤ cycle
load_most r f = le_trans (mul-le-mul_right (cycle / r.period) f.short) (mul-div-le cycle r.period)

gap_most : (p d : ℕ) → gap p d ≤ p
gap_most p d = grind (arith, nat_tests)

pub shortfall_most : (r : Row) → InRange r → shortfall r ≤ cycle * cycle
shortfall_most r f = mul-le-mul {n₂ = cycle} {m₂ = cycle} (le_trans (gap_most r.period r.deadline) f.within) (load_most r f)

-- the ranges follow from the rules of a row
ruled : (r : Row) → 1 ≤ r.code → r.code ≤ 240 → r.period ≡ period_of r.code
    → r.execution ≤ r.period → r.deadline ≤ 4 * r.period → r.hold ≤ r.execution → InRange r
ruled r low high named short near held =
    let some : 0 < period_of r.code = positive r.code low high in
    let within : period_of r.code ≤ cycle = within_cycle r.code low high in
    record { some = omega arith; within = omega arith; short = short; near = omega arith; held = omega arith }

lawful_in_range : (before : ℕ) (r : Row) → lawful_row before r ≡ true → InRange r
lawful_in_range before r e =
    let kept : intact (broken before r) ≡ true = (and_parts _ _ e).0 in
    ruled r (grind (arith, nat_tests)) (grind (arith, nat_tests)) (eqb-true _ _ (and_parts _ _ e).1) (grind (arith, nat_tests)) (grind (arith, nat_tests)) (grind (arith, nat_tests))

pub rows_in_range : (before : ℕ) (rows : List Row) → lawful_after before rows ≡ true → AllByRecursion InRange rows
rows_in_range before [] s = tt
rows_in_range before (r ∷ rows) s = (lawful_in_range before r (and_parts _ _ s).0, rows_in_range r.deadline rows (and_parts _ _ s).1)

pub row_in_range : (rows : List Row) (i : ℕ) (z : Row) → lawful_after 0 rows ≡ true → i < length rows → InRange (get_or rows i z)
row_in_range rows i z lawful inside = All-get_or InRange rows i z inside (rows_in_range 0 rows lawful)

longest_most : (rows : List Row) → AllByRecursion InRange rows → longest_hold rows ≤ cycle
longest_most [] a = omega arith
longest_most (r ∷ rows) a =
    let h : longest_hold rows ≤ cycle = longest_most rows a.1 in
    let k : r.hold ≤ cycle = a.0.held in
    omega arith

pub blocking_most : (k : ℕ) (rows : List Row) → AllByRecursion InRange rows → blocking_after k rows ≤ cycle
blocking_most k rows a = longest_most (drop k rows) (All-drop InRange k rows a)

pub load_to_most : (k : ℕ) (rows : List Row) → AllByRecursion InRange rows → length rows ≤ 32 → load_to k rows ≤ most_load
load_to_most k rows a few =
    let part : load_to k rows ≤ sum_by load rows = sum_by-take-le load rows k in
    let whole : sum_by load rows ≤ length rows * cycle = sum_by_le load cycle rows (All-weaker InRange (λ r. load r ≤ cycle) load_most rows a) in
    omega arith

pub shortfall_to_most : (k : ℕ) (rows : List Row) → AllByRecursion InRange rows → length rows ≤ 32 → shortfall_to k rows ≤ most_shortfall
shortfall_to_most k rows a few =
    let part : shortfall_to k rows ≤ sum_by shortfall rows = sum_by-take-le shortfall rows k in
    let whole : sum_by shortfall rows ≤ length rows * (cycle * cycle) = sum_by_le shortfall (cycle * cycle) rows (All-weaker InRange (λ r. shortfall r ≤ cycle * cycle) shortfall_most rows a) in
    omega arith

-- D × S + G + B × C stays below 10^14
pub sum_small : (d s g b : ℕ) → d ≤ 4 * cycle → s ≤ most_load → g ≤ most_shortfall → b ≤ cycle → d * s + g + b * cycle < 10 ^ 14
sum_small d s g b near loaded lost held =
    let h : d * s ≤ 4 * cycle * most_load = mul-le-mul {n₂ = 4 * cycle} {m₂ = most_load} near loaded in
    omega arith

pub table_small : (rows : List Row) → lawful_after 0 rows ≡ true → length rows ≤ 32 → Small rows
table_small rows lawful few k low high =
    let a : AllByRecursion InRange rows = rows_in_range 0 rows lawful in
    let near : (row_at k rows).deadline ≤ 4 * cycle = (row_in_range rows (k - 1) blank lawful (omega arith)).near in
    (sum_small (row_at k rows).deadline (load_to k rows) (shortfall_to k rows) (blocking_after k rows) near (load_to_most k rows a few) (shortfall_to_most k rows a few) (blocking_most k rows a), omega arith)
