-- The blank slots past a table's rows.
use Rattle.std.proofs.Common.{◌≡◌, ℕ, zero, suc, get_or, replicate, refl}
use Rattle.sheet.specs.Rows.{blank}

pub blank_at : (n k : ℕ) → get_or (replicate n blank) k blank ≡ blank
blank_at zero k = refl
blank_at (suc n) zero = refl
blank_at (suc n) (suc k) = blank_at n k
