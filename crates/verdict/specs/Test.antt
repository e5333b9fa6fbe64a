-- Devi's test with blocking by holds, reckoned in whole numbers: everything is multiplied by the cycle and the deadline.
use Rattle.std.specs.Prelude.{ℕ, zero, suc, ◌+◌, ◌-◌, ◌*◌, ◌/◌, max, Bool, cond, List, [], ◌∷◌, length, take, drop, sum_by, nat_le, nat_lt, slice_index_or}
use Rattle.periods.specs.Periods.{cycle}
use Rattle.sheet.specs.declared.row.Row.{Row}
use Rattle.sheet.specs.Rows.{blank, units}
use Rattle.verdict.specs.declared.answer.Verdict.{Verdict}
use Rattle.verdict.specs.declared.answer.Verdict.TheVariants.{Admitted, FailsAt}

-- the units that the jobs of a row take in a cycle
abbrev pub load : Row → ℕ
load r = units r * (cycle / r.period)

-- by how much the deadline falls short of the period
abbrev pub gap : ℕ → ℕ → ℕ
gap period deadline = cond (nat_lt deadline period) (period - deadline) 0

-- what a row's short deadline costs: its gap times its load
abbrev pub shortfall : Row → ℕ
shortfall r = gap r.period r.deadline * load r

-- the greatest hold
abbrev pub longest_hold : List Row → ℕ
longest_hold [] = 0
longest_hold (r ∷ rs) = max r.hold (longest_hold rs)

-- row k, counted from 1
abbrev pub row_at : ℕ → List Row → Row
row_at k rows = slice_index_or rows (k - 1) blank

-- S: the load of rows 1 to k
abbrev pub load_to : ℕ → List Row → ℕ
load_to k rows = sum_by load (take k rows)

-- G: the shortfall of rows 1 to k
abbrev pub shortfall_to : ℕ → List Row → ℕ
shortfall_to k rows = sum_by shortfall (take k rows)

-- B: the greatest hold of the rows after row k, by which a job of a later row may keep one of rows 1 to k waiting
abbrev pub blocking_after : ℕ → List Row → ℕ
blocking_after k rows = longest_hold (drop k rows)

-- what rows 1 to k ask up to row k's deadline D: D × S + G + B × C
abbrev pub asked_at : ℕ → List Row → ℕ
asked_at k rows = (row_at k rows).deadline * load_to k rows + shortfall_to k rows + blocking_after k rows * cycle

-- what there is up to row k's deadline: C × D
abbrev pub room_at : ℕ → List Row → ℕ
room_at k rows = cycle * (row_at k rows).deadline

-- row k passes
abbrev pub passes : ℕ → List Row → Bool
passes k rows = nat_le (asked_at k rows) (room_at k rows)

-- the first of n rows from row k on that does not pass, if any
abbrev pub first_failing : (n k : ℕ) → List Row → Verdict
first_failing zero k rows = Admitted
first_failing (suc n) k rows = cond (passes k rows) (first_failing n (suc k) rows) (FailsAt k)

-- the verdict on a table's rows
abbrev pub verdict_of : List Row → Verdict
verdict_of rows = first_failing (length rows) 1 rows

-- the verdict as a number: 0 if the table is admitted, else the row that fails
abbrev pub number_of : Verdict → ℕ
number_of Admitted = 0
number_of (FailsAt k) = k
