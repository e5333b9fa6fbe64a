-- The digits of a number of 32 bits.
use Rattle.std.proofs.Common.{◌≡◌, ℕ, ◌+◌, ◌-◌, ◌/◌, ◌%◌, ◌^◌, ◌<◌, ◌≤◌, List, [], ◌∷◌, ◌++◌, length, decimal, drop, set, arith, ap, ◌∙◌, length-append, length-drop, append_assoc}
use Rattle.std.proofs.lemmas.Fmt.{decimal_step, length-decimal-le, decimal_nonempty}
use Rattle.std.proofs.lemmas.Grind.{drop-set_at}

-- there are at most ten digits
pub at_most_ten : (n : ℕ) → n < 2 ^ 32 → length (decimal n) ≤ 10
at_most_ten n h = length-decimal-le 10 n (omega arith) (omega arith) (omega arith)

-- from ten on there are two digits or more
two_or_more : (n : ℕ) → 10 ≤ n → n < 2 ^ 32 → 2 ≤ length (decimal n)
two_or_more n h k =
    let more = ap length (decimal_step n h (omega arith)) ∙ length-append (decimal (n / 10)) ((48 + n % 10) ∷ []) in
    omega (arith, more, decimal_nonempty (n / 10) (omega arith))

-- an array with the digits of n behind a place has room for one more before them, where the rest of n has two or more
pub room_before : (ds : List ℕ) (first n rest : ℕ) → length ds ≡ 10 → first ≤ 10 → decimal n ≡ decimal rest ++ drop first ds → n < 2 ^ 32 → rest < 2 ^ 32 → 10 ≤ rest → 1 ≤ first
room_before ds first n rest size low said fits left more =
    let long = ap length said in
    let two = two_or_more rest more left in
    let ten = at_most_ten n fits in
    grind (arith, length-append, length-drop)

-- the last digit goes before those that stand in the array from a place on
pub last_digit : (ds : List ℕ) (first n : ℕ) → 10 ≤ n → n < 2 ^ 32 → 0 < first → first ≤ length ds → decimal n ++ drop first ds ≡ decimal (n / 10) ++ drop (first - 1) (set ds (first - 1) (48 + n % 10))
last_digit ds first n h k p q =
    ap (λ l. l ++ drop first ds) (decimal_step n h (omega arith))
    ∙ append_assoc (decimal (n / 10)) ((48 + n % 10) ∷ []) (drop first ds)
    ∙ ap (λ l. decimal (n / 10) ++ l) (grind (arith, drop-set_at))

-- for the length of a text that a number is added to
pub ruleset field_lengths = (at_most_ten, length-append)
