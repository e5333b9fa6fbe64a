-- The ranges of a row's numbers that keep the sums of the test small.
use Rattle.std.specs.Prelude.{ℕ, ◌*◌, ◌≤◌}
use Rattle.periods.specs.Periods.{cycle}
use Rattle.sheet.specs.declared.row.Row.{Row}

-- the ranges that every row of a table keeps
pub record InRange (r : Row) : Type 0 where
  pub some : 1 ≤ r.period
  pub within : r.period ≤ cycle
  pub short : r.execution ≤ r.period
  pub near : r.deadline ≤ 4 * cycle
  pub held : r.hold ≤ cycle

-- the most that the rows of a table can load: 32 rows, each a whole cycle
abbrev pub most_load : ℕ
most_load = 32 * cycle

-- the most that they can fall short: 32 gaps of a cycle, each times a whole load
abbrev pub most_shortfall : ℕ
most_shortfall = 32 * (cycle * cycle)
