-- The lines of a log that no step gives.
use Rattle.sheet.specs.declared.fault.Fault.{Fault}
use Rattle.duty_log.specs.declared.line.Line.{Line}
use Rattle.duty_log.specs.declared.line.Line.TheVariants.{Sheet, End}
use Rattle.rules.specs.declared.closing.Closing.{Closing}

-- the line of a refused sheet
abbrev pub fault_line : Fault → Line
fault_line fault = Sheet fault

-- the last line of a log: clock, idle ticks, jobs begun, interruptions
abbrev pub last_line : Closing → Line
last_line c = End (record { clock = c.clock; idle = c.counts.idle; begun = c.counts.begun; interruptions = c.counts.interruptions })
