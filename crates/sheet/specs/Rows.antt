-- The rows of a table, and the rules that they keep.
use Rattle.std.specs.Prelude.{ℕ, ◌*◌, Bool, true, false, cond, not, ◌&&◌, ◌||◌, List, [], ◌∷◌, length, replicate, Some, None, Option, ◌==◌, nat_le, nat_lt}
use Rattle.std.specs.List.{list_all}
use Rattle.periods.specs.Periods.{cycle, no_entry, period_of}
use Rattle.sheet.specs.declared.row.Row.{Row}
use Rattle.sheet.specs.declared.fault.Rule.{Rule}
use Rattle.sheet.specs.declared.fault.Rule.TheVariants.{Text, Code, Deadline, Phase, Execution, Hold}

-- the row of a new table: eight spaces, phase 0, period 1, execution 1, deadline 1, hold 0
abbrev pub blank : Row
blank = record { label = replicate 8 32; phase = 0; period = 1; code = 1; execution = 1; deadline = 1; hold = 0 }

-- the units of execution that each job of a row has
abbrev pub units : Row → ℕ
units r = r.execution

-- a printable character
abbrev pub printable : ℕ → Bool
printable b = nat_le 32 b && nat_le b 126

-- a label is eight printable characters
abbrev pub lawful_label : List ℕ → Bool
lawful_label l = length l == 8 && list_all printable l

-- the deadline is 0, above four periods, or below the deadline of the row before
abbrev pub bad_deadline : ℕ → Row → Bool
bad_deadline before r = r.deadline == 0 || (nat_lt (4 * r.period) r.deadline || nat_lt r.deadline before)

-- the execution is 0, or above the period or the deadline
abbrev pub bad_execution : Row → Bool
bad_execution r = r.execution == 0 || (nat_lt r.period r.execution || nat_lt r.deadline r.execution)

-- the first rule that a row breaks, where the row before has that deadline (0: there is none before)
abbrev pub broken : ℕ → Row → Option Rule
broken before r =
    cond (not (lawful_label r.label)) (Some Text)
    (cond (no_entry r.code) (Some Code)
    (cond (bad_deadline before r) (Some Deadline)
    (cond (nat_lt cycle r.phase) (Some Phase)
    (cond (bad_execution r) (Some Execution)
    (cond (nat_lt r.execution r.hold) (Some Hold)
    None)))))

-- nothing is broken
abbrev pub intact : Option Rule → Bool
intact None = true
intact (Some _) = false

-- a row that breaks no rule, and whose period is the one that its code names
abbrev pub lawful_row : ℕ → Row → Bool
lawful_row before r = intact (broken before r) && r.period == period_of r.code

-- rows that keep the rules one after the other, after a row of that deadline
abbrev pub lawful_after : ℕ → List Row → Bool
lawful_after before [] = true
lawful_after before (r ∷ rs) = lawful_row before r && lawful_after r.deadline rs
