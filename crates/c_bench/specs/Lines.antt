-- What comes of a sheet, by what reading it says.
use Rattle.std.specs.Prelude.{ℕ, List, [], map, Ok, Err, Result}
use Rattle.sheet.specs.declared.row.Row.{Row}
use Rattle.sheet.specs.declared.fault.Fault.{Fault}
use Rattle.sheet.specs.Sheet.{sheet_of}
use Rattle.verdict.specs.Test.{verdict_of}
use Rattle.duty_log.specs.declared.line.Line.{Line}
use Rattle.duty_log.specs.declared.line.Line.TheVariants.{Verdict}
use Rattle.rules.specs.declared.call.Call.TheVariants.{Step}
use Rattle.program.specs.Lines.{fault_line, last_line}
use Rattle.rules.specs.Run.{after_run, closing_of}

-- the sheet of the rows that were read; nothing where the sheet is refused
abbrev pub rewritten : Result (List Row) Fault → List ℕ
rewritten (Ok rows) = sheet_of rows
rewritten (Err fault) = []

-- the line of the verdict on the rows
abbrev pub verdict_line : Result (List Row) Fault → Line
verdict_line (Ok rows) = Verdict (verdict_of rows)
verdict_line (Err fault) = fault_line fault

-- the last line of the log of a run on the rows with those letters
abbrev pub end_line : List ℕ → Result (List Row) Fault → Line
end_line letters (Ok rows) = last_line (closing_of (after_run rows (map Step letters)))
end_line letters (Err fault) = fault_line fault
