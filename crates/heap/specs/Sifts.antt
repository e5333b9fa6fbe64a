-- Lists that are heaps but for one entry. The parent of the entry at k, from 1 on, stands at (k - 1) / 2.
use Rattle.std.specs.Prelude.{◌≡◌, ℕ, ◌-◌, ◌/◌, ◌<◌, Bool, false, List, length, ◌≢◌, slice_index_or}

module _ {X : Type 0} (ahead : X → X → Bool) where
  -- a heap but for the entry at j, which may come before those above it
  abbrev pub Rising : List X → ℕ → Type 0
  Rising xs j =
      ((k : ℕ) (d : X) → 0 < k → k < length xs → (k ≢ j) → ahead (slice_index_or xs k d) (slice_index_or xs ((k - 1) / 2) d) ≡ false)
      × ((k : ℕ) (d : X) → 0 < k → k < length xs → (k - 1) / 2 ≡ j → 0 < j → ahead (slice_index_or xs k d) (slice_index_or xs ((j - 1) / 2) d) ≡ false)

  -- a heap but for the entry at j, which may come after those below it
  abbrev pub Sinking : List X → ℕ → Type 0
  Sinking xs j =
      ((k : ℕ) (d : X) → 0 < k → k < length xs → ((k - 1) / 2 ≢ j) → ahead (slice_index_or xs k d) (slice_index_or xs ((k - 1) / 2) d) ≡ false)
      × ((k : ℕ) (d : X) → 0 < k → k < length xs → (k - 1) / 2 ≡ j → 0 < j → ahead (slice_index_or xs k d) (slice_index_or xs ((j - 1) / 2) d) ≡ false)

  -- no child of the entry at j comes before the entry at c
  abbrev pub Least : List X → ℕ → ℕ → Type 0
  Least xs j c = (k : ℕ) (d : X) → 0 < k → k < length xs → (k - 1) / 2 ≡ j → ahead (slice_index_or xs k d) (slice_index_or xs c d) ≡ false
