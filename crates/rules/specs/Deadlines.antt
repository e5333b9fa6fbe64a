-- Releases and deadlines of a periodic task, in closed form.
use Rattle.std.specs.Prelude.{◌≡◌, ℕ, ◌+◌, ◌-◌, ◌/◌, ◌<◌, cond, nat_le, nat_lt}
use Rattle.sheet.specs.declared.row.Row.{Row}

-- how many jobs of a row have their deadline at or before a clock
abbrev pub deadlines_by : Row → ℕ → ℕ
deadlines_by r t = cond (nat_lt t (r.phase + r.deadline)) 0 (1 + (t - r.phase - r.deadline) / r.period)

-- how many jobs of a row are released before a clock
abbrev pub releases_before : Row → ℕ → ℕ
releases_before r t = cond (nat_le t r.phase) 0 (1 + (t - r.phase - 1) / r.period)

-- each deadline comes D ticks after its release, and none before D
pub record DeadlinesFollow (r : Row) : Type 0 where
  pub after : (t : ℕ) → deadlines_by r (t + r.deadline) ≡ releases_before r (t + 1)
  pub none : (t : ℕ) → t < r.deadline → deadlines_by r t ≡ 0
