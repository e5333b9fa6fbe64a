-- The bits of a word.
use Rattle.std.specs.Prelude.{ℕ, zero, suc, ◌/◌, ◌%◌}

-- bit i, where bit 0 is the lowest
unfoldable pub bit : ℕ → ℕ → ℕ
bit zero word = word % 2
bit (suc i) word = bit i (word / 2)
