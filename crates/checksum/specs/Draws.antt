-- The numbers that are drawn.
use Rattle.std.specs.Prelude.{ℕ, ◌+◌, ◌*◌, ◌%◌, ◌^◌}

-- the number that is drawn after a number
abbrev pub drawn_after : ℕ → ℕ
drawn_after number = (number * 6364136223846793005 % 2 ^ 64 + 1442695040888963407) % 2 ^ 64
