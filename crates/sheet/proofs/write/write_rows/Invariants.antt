use Rattle.std.proofs.Common.{◌≡◌, ◌+◌, ◌*◌, drop}
use Rattle.sheet.specs.Sheet.{rows_bytes}
use Rattle.sheet.specs.Writing.{put}
use Rattle.sheet.proofs.write.write_rows.Given as goal

-- the rows left, put onto what is there, give the whole
abbrev pub invariant-loop-k : goal.invariant-loop-k
invariant-loop-k l = put l.out (16 + 28 * l.k) (rows_bytes (drop l.k l.rows)) ≡ put l.initial.out 16 (rows_bytes l.rows)
