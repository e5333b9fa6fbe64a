use Rattle.std.proofs.Common.{refl}
use Rattle.std.specs.Fmt.{digits}
use Rattle.duty_log.proofs.theorems.worked_lines.Goals as goal

pub returns : goal.returns
unfolding digits
returns c =
    record {
      lines =
          record {
            head = refl;
            head_words = refl;
            verdict = refl;
            sheet = refl;
            short_sheet = refl;
            done = refl;
            idle = refl;
            put_back = refl;
            held = refl;
            miss = refl;
            refused = refl;
            end = refl;
          };
      numbers = record { admitted = refl; fails = refl; sheet = refl; other_sheet = refl; refused = refl; other_refused = refl };
      outcomes = record { missed = refl; punctual = refl };
      answers = record { punctual = refl; missed = refl; stopped = refl; last_clock = refl; no_letter = refl };
      longest = record { reached = refl };
      verdict = record { fails = refl };
      buffers = record { longer = refl; longer_left = refl; just = refl; just_left = refl; shorter = refl; shorter_left = refl; number = refl };
    }
