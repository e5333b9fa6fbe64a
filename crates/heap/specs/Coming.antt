-- Coming releases: their order.
use Rattle.std.specs.Prelude.{ℕ, Bool, cond, List, [], ◌∷◌, ◌==◌, nat_lt}
use Rattle.heap.specs.declared.release.Release.{Release}

-- the order fields of a release
abbrev pub release_fields : Release → List ℕ
release_fields r = r.time ∷ r.task ∷ []

-- a comes before b: its time is earlier, or at equal times its task is smaller
abbrev pub earlier : Release → Release → Bool
earlier a b = cond (a.time == b.time) (nat_lt a.task b.task) (nat_lt a.time b.time)
