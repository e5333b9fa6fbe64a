-- One entry of a list changed by a function.
use Rattle.std.proofs.Common.{◌≡◌, ℕ, ◌+◌, zero, suc, List, [], ◌∷◌, get_or, take, set, refl, ap}
use Rattle.rules.specs.declared.counts.TaskCounts.{TaskCounts}

-- a tick given, and so many jobs done
abbrev pub given_tick : ℕ → TaskCounts → TaskCounts
given_tick d k = record { released = k.released; done = k.done + d; given = k.given + 1 }

abbrev pub updated : {X : Type 0} → X → (X → X) → ℕ → List X → List X
updated d f i xs = set xs i (f (get_or xs i d))

pub take_updated : {X : Type 0} (d : X) (f : X → X) (n i : ℕ) (xs : List X) → take n (updated d f i xs) ≡ updated d f i (take n xs)
take_updated d f zero i xs = refl
take_updated d f (suc n) i [] = refl
take_updated d f (suc n) zero (x ∷ xs) = refl
take_updated d f (suc n) (suc i) (x ∷ xs) = ap (λ ys. x ∷ ys) (take_updated d f n i xs)

-- what holds of each entry, and of the changed ones, holds of each entry after
pub each_updated : {X : Type 0} (d : X) (f : X → X) (P R : X → Type 0) → ((x : X) → P x → R x) → ((x : X) → P x → R (f x))
    → (xs : List X) (i : ℕ) → ((k : ℕ) → P (get_or xs k d)) → (k : ℕ) → R (get_or (updated d f i xs) k d)
each_updated d f P R p q [] i h k = p d (h 0)
each_updated d f P R p q (x ∷ xs) zero h zero = q x (h 0)
each_updated d f P R p q (x ∷ xs) zero h (suc k) = p (get_or xs k d) (h (suc k))
each_updated d f P R p q (x ∷ xs) (suc i) h zero = p x (h 0)
each_updated d f P R p q (x ∷ xs) (suc i) h (suc k) = each_updated d f P R p q xs i (λ m. h (suc m)) k

-- what the change leaves of an entry is as it was
pub part_updated : {X Y : Type 0} (d : X) (f : X → X) (part : X → Y) → ((x : X) → part (f x) ≡ part x)
    → (xs : List X) (i k : ℕ) → part (get_or (updated d f i xs) k d) ≡ part (get_or xs k d)
part_updated d f part e [] i k = refl
part_updated d f part e (x ∷ xs) zero zero = e x
part_updated d f part e (x ∷ xs) zero (suc k) = refl
part_updated d f part e (x ∷ xs) (suc i) zero = refl
part_updated d f part e (x ∷ xs) (suc i) (suc k) = part_updated d f part e xs i k
