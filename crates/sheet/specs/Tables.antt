-- What a table is: its rows, in order.
use Rattle.std.specs.Prelude.{List, take}
use Rattle.sheet.specs.declared.row.Row.{Row}
use Rattle.sheet.specs.declared.table.Table.{Table}

-- the rows of a table; task i is row i, counted from 1
abbrev pub rows_of : Table → List Row
rows_of t = take t.count t.slots
