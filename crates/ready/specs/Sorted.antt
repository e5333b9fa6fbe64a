-- Lists that are kept in an order. `ahead x y` says that x comes before y.
use Rattle.std.specs.Prelude.{◌≡◌, Bool, false, cond, List, [], ◌∷◌}
use Rattle.std.specs.List.{AllByRecursion}

module _ {X : Type 0} (ahead : X → X → Bool) where
  -- x set at its place in a list that is in order
  abbrev pub placed : X → List X → List X
  placed x [] = x ∷ []
  placed x (y ∷ ys) = cond (ahead y x) (y ∷ placed x ys) (x ∷ y ∷ ys)

  -- the same elements, in order
  abbrev pub ordered : List X → List X
  ordered [] = []
  ordered (x ∷ xs) = placed x (ordered xs)

  -- no element comes before one that stands in front of it
  abbrev pub Sorted : List X → Type 0
  Sorted [] = Unit {0}
  Sorted (x ∷ xs) = AllByRecursion (λ y. ahead y x ≡ false) xs × Sorted xs
