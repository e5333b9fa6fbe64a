use Rattle.std.proofs.Common.{refl}
use Rattle.periods.specs.Periods.{periods}
use Rattle.sheet.specs.Sheet.{header_bytes, row_bytes}
use Rattle.sheet.specs.Reading.{read_row, read_sheet}
use Rattle.sheet.proofs.theorems.sheets_by_example.Goals as goal

pub returns : goal.returns
unfolding periods read_sheet read_row row_bytes header_bytes
returns c = record {
  edges = record { greatest = refl; least = refl; label_low = refl; label_high = refl; label_last = refl; closing_first = refl; closing_last = refl; code = refl; no_deadline = refl; falling = refl; level = refl; phase = refl; past_a_period = refl; no_execution = refl; past_period = refl; past_deadline = refl; hold = refl };
  order = record { short = refl; no_rows = refl; many_rows = refl; header = refl; length_field = refl; length = refl; closing = refl; text = refl; code = refl; deadline = refl; phase = refl; execution = refl; first_row = refl };
  numbered = record { numbers = refl; layers = refl; rows = refl; writing = refl };
  buffers = record { inside = refl; longer = (refl, refl); just = (refl, refl); shorter = (refl, refl) };
}
