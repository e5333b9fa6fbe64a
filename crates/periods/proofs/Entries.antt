-- A rule of a list, proved at all of its entries by one test that the checker computes.
use Rattle.std.proofs.Common.{ℕ, zero, suc, ◌+◌, ◌<◌, Bool, true, false, T, List, [], ◌∷◌, length, get_or, sym, ◌∙◌, subst, le_of_suc-le-suc, not-suc-le-zero, add-zero, add-suc, suc-add, zero-add}

abbrev pub both : Bool → Bool → Bool
both true b = b
both false b = false

pub both_left : (a b : Bool) → T (both a b) → T a
both_left true b t = tt
both_left false b t = t

pub both_right : (a b : Bool) → T (both a b) → T b
both_right true b t = t
both_right false b t = absurd t

-- the test passes at each entry and its place, counted from i
abbrev pub passes_from : (ℕ → ℕ → Bool) → ℕ → List ℕ → Bool
passes_from test i [] = true
passes_from test i (x ∷ xs) = both (test i x) (passes_from test (suc i) xs)

entry_from : (test : ℕ → ℕ → Bool) (xs : List ℕ) (i : ℕ) → T (passes_from test i xs)
    → (k : ℕ) → k < length xs → T (test (i + k) (get_or xs k 0))
entry_from test [] i t k h = absurd (not-suc-le-zero h)
entry_from test (x ∷ xs) i t zero h =
    subst (λ (m : ℕ). T (test m x)) (sym (add-zero i)) (both_left (test i x) (passes_from test (suc i) xs) t)
entry_from test (x ∷ xs) i t (suc k) h =
    subst (λ (m : ℕ). T (test m (get_or xs k 0))) (suc-add i k ∙ sym (add-suc i k))
    (entry_from test xs (suc i) (both_right (test i x) (passes_from test (suc i) xs) t) k (le_of_suc-le-suc h))

-- so it passes at each place
pub entry_passes : (test : ℕ → ℕ → Bool) (xs : List ℕ) → T (passes_from test 0 xs)
    → (k : ℕ) → k < length xs → T (test k (get_or xs k 0))
entry_passes test xs t k h = subst (λ (m : ℕ). T (test m (get_or xs k 0))) (zero-add k) (entry_from test xs 0 t k h)
