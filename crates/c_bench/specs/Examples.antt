-- What comes of sheets, by example.
use Rattle.std.specs.Prelude.{◌≡◌, [], Ok, Err, codes}
use Rattle.sheet.specs.declared.fault.Fault.TheVariants.{Short, Broken}
use Rattle.sheet.specs.declared.fault.Rule.TheVariants.{Deadline}
use Rattle.duty_log.specs.Lines.{bytes_of}
use Rattle.rules.specs.Examples.{sounder, overloaded}
use Rattle.c_bench.specs.Lines.{rewritten, verdict_line, end_line}

-- an admitted table, one that fails, and refused sheets
pub record LinesAsWritten : Type 0 where
  pub admitted : bytes_of (verdict_line (Ok sounder)) ≡ codes "verdict 0\n"
  pub fails : bytes_of (verdict_line (Ok overloaded)) ≡ codes "verdict 2\n"
  pub not_judged : bytes_of (verdict_line (Err (Broken Deadline 2))) ≡ codes "sheet 7 3 2\n"
  pub run : bytes_of (end_line (codes "rrrrrr") (Ok sounder)) ≡ codes "end 6 1 3 1\n"
  pub stopped : bytes_of (end_line (codes "rrrrrr") (Ok overloaded)) ≡ codes "end 4 0 2 0\n"
  pub not_run : bytes_of (end_line (codes "rrrrrr") (Err Short)) ≡ codes "sheet 1 1 0\n"
  pub not_rewritten : rewritten (Err Short) ≡ []
