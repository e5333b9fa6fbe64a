-- Bytes past the longest sheet change nothing.
use Rattle.std.proofs.Common.{◌≡◌, ℕ, ◌<◌, Bool, false, cond, eqb, ltb, List, length, take, drop, Ok, Err, Result, sym, refl, ap, ◌∙◌, arith}
use Rattle.std.proofs.lemmas.List.{length-take-le}
use Rattle.std.proofs.lemmas.Bool.{ne_eqb}
use Rattle.std.proofs.lemmas.Bool.Decides.{nat_tests}
use Rattle.sheet.specs.declared.fault.Fault.{Fault}
use Rattle.sheet.specs.declared.fault.Fault.TheVariants.{Short, Length}
use Rattle.sheet.specs.Sheet.{sheet_size}
use Rattle.sheet.specs.Reading.{then, read_header, read_rows, read_sheet}
use Rattle.sheet.specs.Laws.{LongerAlike}
use Rattle.sheet.proofs.Fronts.{header_same}
use Rattle.sheet.proofs.Reading.{header_count}

-- what more bytes than the longest sheet has say: a fault of the header, or of the length
long_says : (bs : List ℕ) → 912 < length bs → read_sheet bs ≡ then (read_header bs) (λ _. Err Length)
unfolding read_sheet
long_says bs long =
    let enough : ltb (length bs) 16 ≡ false = grind (arith, nat_tests) in
    ap (λ (b : Bool). cond b (Err Short) (then (read_header bs) (λ count. cond (eqb (length bs) (sheet_size count)) (read_rows count 1 0 (drop 16 bs)) (Err Length)))) enough
    ∙ go (read_header bs) refl
  where
    go : (h : Result ℕ Fault) → read_header bs ≡ h
        → then h (λ count. cond (eqb (length bs) (sheet_size count)) (read_rows count 1 0 (drop 16 bs)) (Err Length)) ≡ then h (λ _. Err Length)
    go (Err f) e = refl
    go (Ok count) e =
        let few = (header_count bs count e).1 in
        ap (λ (b : Bool). cond b (read_rows count 1 0 (drop 16 bs)) (Err Length)) (ne_eqb (length bs) (sheet_size count) (λ x. omega arith))

pub longer_alike : LongerAlike
longer_alike bs n long within =
    long_says (take n bs) (omega (arith, length-take-le n bs within))
    ∙ ap (λ (h : Result ℕ Fault). then h (λ _. Err Length)) (header_same bs n (omega arith))
    ∙ sym (long_says bs (omega arith))
