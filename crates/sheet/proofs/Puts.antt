-- How writes after one another join.
use Rattle.std.proofs.Common.{◌≡◌, ℕ, ◌+◌, ◌<◌, ◌≤◌, List, ◌++◌, length, get_or, take, drop, Ok, Err, Result, sym, ap, ◌∙◌, subst, append_assoc, add_assoc, length-append, le-leb}
use borrow.Author.Tests.{lt-leb}
use Rattle.std.proofs.lemmas.List.{take_at, drop_at, length-take-le, drop-drop, at_drop_more}
use Rattle.sheet.specs.declared.row.Row.{Row}
use Rattle.sheet.specs.declared.refusal.WriteRefusal.{WriteRefusal}
use Rattle.sheet.specs.declared.refusal.WriteRefusal.TheVariants.{ShortBuffer}
use Rattle.sheet.specs.Sheet.{row_bytes, rows_bytes}
use Rattle.sheet.specs.Writing.{put, Written, Writes}
use Rattle.sheet.proofs.Sizes.{length_row}

pub put_put : (old : List ℕ) (at : ℕ) (xs ys : List ℕ) → at ≤ length old → put (put old at xs) (at + length xs) ys ≡ put old at (xs ++ ys)
put_put old at xs ys h =
    let n : ℕ = at + length xs in
    let D : List ℕ = drop (at + length xs) old in
    let X : List ℕ = take at old ++ xs in
    let long : length X ≡ n = length-append (take at old) xs ∙ ap (λ k. k + length xs) (length-take-le at old h) in
    let whole : put old at xs ≡ X ++ D = sym (append_assoc (take at old) xs D) in
    let front : take n (put old at xs) ≡ X = ap (take n) whole ∙ take_at X D n long in
    let back : drop (n + length ys) (put old at xs) ≡ drop (n + length ys) old =
    sym (drop-drop (length ys) n (put old at xs)) ∙ ap (drop (length ys)) (ap (drop n) whole ∙ drop_at X D n long) ∙ drop-drop (length ys) n old in
    (λ i. front i ++ (ys ++ back i))
    ∙ append_assoc (take at old) xs (ys ++ drop (n + length ys) old)
    ∙ ap (λ l. take at old ++ l) (sym (append_assoc xs ys (drop (n + length ys) old)))
    ∙ ap (λ k. take at old ++ ((xs ++ ys) ++ drop k old)) (add_assoc at (length xs) (length ys) ∙ ap (λ k. at + k) (sym (length-append xs ys)))

-- one row, and then those after it
pub put_row : (out : List ℕ) (at : ℕ) (rs : List Row) (i : ℕ) (z : Row) → i < length rs → at ≤ length out
    → put (put out at (row_bytes (get_or rs i z))) (at + 28) (rows_bytes (drop (i + 1) rs)) ≡ put out at (rows_bytes (drop i rs))
put_row out at rs i z h k =
    ap (λ n. put (put out at (row_bytes (get_or rs i z))) (at + n) (rows_bytes (drop (i + 1) rs))) (sym (length_row (get_or rs i z)))
    ∙ put_put out at (row_bytes (get_or rs i z)) (rows_bytes (drop (i + 1) rs)) k
    ∙ ap (put out at) (sym (at_drop_more rows_bytes rs i z h))

-- what a call of `write` owes at its ends
pub wrote : (bytes : List ℕ) (r : Result ℕ WriteRefusal) (old new : List ℕ) → length bytes ≤ length old → r ≡ Ok (length bytes) → new ≡ put old 0 bytes → Writes bytes r old new
wrote bytes r old new h p q = subst (λ b. Written b bytes r old new) (sym (le-leb (length bytes) (length old) h)) (p, q)

pub refused : (bytes : List ℕ) (r : Result ℕ WriteRefusal) (old new : List ℕ) → length old < length bytes → r ≡ Err ShortBuffer → new ≡ old → Writes bytes r old new
refused bytes r old new h p q = subst (λ b. Written b bytes r old new) (sym (lt-leb (length bytes) (length old) h)) (p, q)
