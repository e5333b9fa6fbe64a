use Rattle.std.proofs.Common.{◌≡◌, ℕ, ◌+◌, ◌-◌, ◌*◌, ◌/◌, ◌≤◌, length, get_or, take, drop}
use Rattle.sheet.specs.Reading.{read_rows}
use Rattle.sheet.specs.Rows.{blank}
use Rattle.sheet.proofs.Reading.{ahead}
use Rattle.sheet.proofs.read.read_rows.Given as goal

-- the rows so far stand ahead of what the bytes left say, and the slots after them are blank
abbrev pub invariant-loop-k : goal.invariant-loop-k
invariant-loop-k l =
    (length l.slots ≡ 32) ×
    ((j : ℕ) → l.k ≤ j → get_or l.slots j blank ≡ blank) ×
    (read_rows (length l.bytes / 28) 1 0 l.bytes ≡ ahead (take l.k l.slots) (read_rows (length l.bytes / 28 - l.k) (l.k + 1) l.before (drop (28 * l.k) l.bytes)))
