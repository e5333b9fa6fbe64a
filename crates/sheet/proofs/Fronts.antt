-- A header and a row are told by their own bytes, whatever comes after them.
use Rattle.std.proofs.Common.{◌≡◌, ℕ, zero, suc, ◌+◌, ◌*◌, ◌<◌, ◌≤◌, lit≤, cond, ◌&&◌, eqb, List, get_or, take, drop, unwrap_or, Ok, Err, refl, ap, ◌∙◌, arith}
use Rattle.std.specs.Simd.{first_chunks}
use Rattle.std.proofs.lemmas.List.{get_or-take, take-take, drop-drop}
use Rattle.periods.specs.Periods.{cycle, named}
use Rattle.sheet.specs.declared.fault.Rule.TheVariants.{Text}
use Rattle.sheet.specs.declared.fault.Fault.TheVariants.{RowCount, Header, Broken}
use Rattle.sheet.specs.Rows.{broken}
use Rattle.sheet.specs.Sheet.{two_at, four_at, sheet_size}
use Rattle.sheet.specs.Reading.{bad_count, read_header, row_in, judged, read_row}

module _ (bs : List ℕ) (n : ℕ) where
  two_same : (i : ℕ) → i + 1 < n → two_at (take n bs) i ≡ two_at bs i
  two_same i h = λ k. get_or-take n bs i 0 (omega arith) k * 256 + get_or-take n bs (i + 1) 0 (omega arith) k

  four_same : (i : ℕ) → i + 3 < n → four_at (take n bs) i ≡ four_at bs i
  four_same i h = λ k.
      get_or-take n bs i 0 (omega arith) k * 16777216 + get_or-take n bs (i + 1) 0 (omega arith) k * 65536
      + get_or-take n bs (i + 2) 0 (omega arith) k * 256 + get_or-take n bs (i + 3) 0 (omega arith) k

  pub header_same : 16 ≤ n → read_header (take n bs) ≡ read_header bs
  header_same long = λ k.
      cond (bad_count (two_same 0 (omega arith) k)) (Err RowCount)
      (cond (eqb (two_same 2 (omega arith) k) 16 && (eqb (two_same 4 (omega arith) k) 0 && (eqb (two_same 6 (omega arith) k) 0 &&
      (eqb (four_same 8 (omega arith) k) cycle && eqb (four_same 12 (omega arith) k) (sheet_size (two_same 0 (omega arith) k))))))
      (Ok (two_same 0 (omega arith) k)) (Err Header))

module _ (bs : List ℕ) where
  row_same : row_in (take 28 bs) ≡ row_in bs
  row_same = λ i. record {
    label = take-take 8 28 bs (lit≤ tt) i;
    phase = four_same bs 28 8 (omega arith) i;
    period = unwrap_or (named (two_same bs 28 24 (omega arith) i)) 0;
    code = two_same bs 28 24 (omega arith) i;
    execution = four_same bs 28 12 (omega arith) i;
    deadline = four_same bs 28 16 (omega arith) i;
    hold = four_same bs 28 20 (omega arith) i;
  }

  read_row_same : (k before : ℕ) → read_row k before (take 28 bs) ≡ read_row k before bs
  unfolding read_row
  read_row_same k before = λ i.
      cond (eqb (get_or-take 28 bs 26 0 (omega arith) i) 0 && eqb (get_or-take 28 bs 27 0 (omega arith) i) 0)
      (judged k (row_same i) (broken before (row_same i))) (Err (Broken Text k))

-- piece k of 28 bytes
chunk_at : (n k : ℕ) (bs : List ℕ) (d : List ℕ) → k < n → get_or (first_chunks 28 n bs) k d ≡ take 28 (drop (28 * k) bs)
chunk_at zero k bs d h = absurd (omega arith)
chunk_at (suc n) zero bs d h = refl
chunk_at (suc n) (suc k) bs d h =
    let e : 28 + 28 * k ≡ 28 * suc k = omega arith in
    chunk_at n k (drop 28 bs) d (omega arith) ∙ ap (take 28) (drop-drop (28 * k) 28 bs ∙ ap (λ m. drop m bs) e)

-- the reader of a row at piece k reads the bytes from there on
pub row_at_piece : (j before n k : ℕ) (bs : List ℕ) (rows : List (List ℕ)) (d : List ℕ) → rows ≡ first_chunks 28 n bs → k < n
    → read_row j before (get_or rows k d) ≡ read_row j before (drop (28 * k) bs)
row_at_piece j before n k bs rows d e h =
    ap (λ (l : List (List ℕ)). read_row j before (get_or l k d)) e ∙ ap (read_row j before) (chunk_at n k bs d h) ∙ read_row_same (drop (28 * k) bs) j before
