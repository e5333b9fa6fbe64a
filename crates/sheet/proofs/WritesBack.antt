-- Bytes that say rows are the sheet of those rows.
use Rattle.std.proofs.Common.{◌≡◌, ℕ, zero, suc, ◌+◌, ◌*◌, ◌/◌, ◌%◌, ◌<◌, ◌≤◌, eqb, ltb, List, [], ◌∷◌, ◌++◌, length, get_or, take, drop, Ok, sym, refl, ap, ◌∙◌, subst, arith, ltb-false, eqb-true}
use Rattle.std.proofs.lemmas.List.{length-take-le, length-drop, get_or-drop, take-append-drop}
use Rattle.std.proofs.lemmas.Bool.{and_parts}
use Rattle.periods.specs.Periods.{cycle}
use Rattle.sheet.specs.declared.row.Row.{Row}
use Rattle.sheet.specs.declared.fault.Fault.TheVariants.{Short, RowCount, Header, Length}
use Rattle.sheet.specs.Sheet.{two_bytes, four_bytes, two_at, four_at, eight_bytes, header_bytes, row_bytes, rows_bytes, sheet_size}
use Rattle.sheet.specs.Reading.{row_in, read_row, read_rows, bad_count, header_stands, read_header, read_sheet}
use Rattle.sheet.specs.Laws.{Bytes, WritesBack}
use Rattle.sheet.proofs.Accepted.{cond_ok, cond_yes, then_ok, row_read}
use Rattle.sheet.proofs.ReadsBack.{upto, upto_is, eight_back}

four_forth : (a b c d : ℕ) → a < 256 → b < 256 → c < 256 → d < 256 → four_bytes (a * 16777216 + b * 65536 + c * 256 + d) ≡ a ∷ b ∷ c ∷ d ∷ []
four_forth a b c d ha hb hc hd =
    let n : ℕ = a * 16777216 + b * 65536 + c * 256 + d in
    let p : n / 16777216 % 256 ≡ a = omega arith in
    let q : n / 65536 % 256 ≡ b = omega arith in
    let r : n / 256 % 256 ≡ c = omega arith in
    let s : n % 256 ≡ d = omega arith in
    λ i. p i ∷ q i ∷ r i ∷ s i ∷ []

two_forth : (a b : ℕ) → a < 256 → b < 256 → two_bytes (a * 256 + b) ≡ a ∷ b ∷ []
two_forth a b ha hb =
    let p : (a * 256 + b) / 256 % 256 ≡ a = omega arith in
    let q : (a * 256 + b) % 256 ≡ b = omega arith in
    λ i. p i ∷ q i ∷ []

module _ (bs : List ℕ) (small : Bytes bs) where
  two : (i : ℕ) → two_bytes (two_at bs i) ≡ get_or bs i 0 ∷ get_or bs (i + 1) 0 ∷ []
  two i = two_forth _ _ (small i) (small (i + 1))

  four : (i : ℕ) → four_bytes (four_at bs i) ≡ get_or bs i 0 ∷ get_or bs (i + 1) 0 ∷ get_or bs (i + 2) 0 ∷ get_or bs (i + 3) 0 ∷ []
  four i = four_forth _ _ _ _ (small i) (small (i + 1)) (small (i + 2)) (small (i + 3))

  row_forth : 28 ≤ length bs → get_or bs 26 0 ≡ 0 → get_or bs 27 0 ≡ 0 → row_bytes (row_in bs) ≡ take 28 bs
  unfolding row_bytes
  row_forth long y z =
      let name : eight_bytes (take 8 bs) ≡ upto 0 8 bs = eight_back (take 8 bs) (length-take-le 8 bs (omega arith)) ∙ sym (upto_is bs 0 8 (omega arith)) in
      (λ i. name i ++ four 8 i ++ four 12 i ++ four 16 i ++ four 20 i ++ two 24 i ++ sym y i ∷ sym z i ∷ [])
      ∙ upto_is bs 0 28 long

  row_rewritten : (k before : ℕ) (r : Row) → 28 ≤ length bs → read_row k before bs ≡ Ok r → row_bytes r ≡ take 28 bs
  row_rewritten k before r long e =
      let p = row_read k before bs r e in
      let q = and_parts (eqb (get_or bs 26 0) 0) (eqb (get_or bs 27 0) 0) p.ends in
      ap row_bytes (sym p.is) ∙ row_forth long (eqb-true _ _ q.0) (eqb-true _ _ q.1)

  header_rewritten : (n : ℕ) → 16 ≤ length bs → read_header bs ≡ Ok n → header_bytes n ≡ take 16 bs
  unfolding header_bytes
  header_rewritten n long e =
      let p = cond_ok (bad_count (two_at bs 0)) RowCount _ n e in
      let q = cond_yes (header_stands bs) Header _ n p.1 in
      let same : two_at bs 0 ≡ n = cc q.1 in
      let a = and_parts _ _ q.0 in let b = and_parts _ _ a.1 in let c = and_parts _ _ b.1 in let d = and_parts _ _ c.1 in
      let ea : two_at bs 2 ≡ 16 = eqb-true _ _ a.0 in
      let eb : two_at bs 4 ≡ 0 = eqb-true _ _ b.0 in
      let ec : two_at bs 6 ≡ 0 = eqb-true _ _ c.0 in
      let ed : four_at bs 8 ≡ cycle = eqb-true _ _ d.0 in
      let ee : four_at bs 12 ≡ sheet_size n = eqb-true _ _ d.1 ∙ ap sheet_size same in
      (λ i. two_bytes (sym same i) ++ two_bytes (sym ea i) ++ two_bytes (sym eb i) ++ two_bytes (sym ec i) ++ four_bytes (sym ed i) ++ four_bytes (sym ee i))
      ∙ (λ i. two 0 i ++ two 2 i ++ two 4 i ++ two 6 i ++ four 8 i ++ four 12 i)
      ∙ upto_is bs 0 16 long

  pub bytes_after : (n : ℕ) → Bytes (drop n bs)
  bytes_after n i = subst (λ x. x < 256) (sym (get_or-drop n bs i 0)) (small (n + i))

-- rows that make up the bytes
record Whole (n : ℕ) (rows : List Row) (bs : List ℕ) : Type 0 where
  count : length rows ≡ n
  bytes : rows_bytes rows ≡ bs

rows_rewritten : (n k before : ℕ) (bs : List ℕ) (rows : List Row) → length bs ≡ 28 * n → Bytes bs → read_rows n k before bs ≡ Ok rows → Whole n rows bs
rows_rewritten zero k before [] rows long small e = let f : [] ≡ rows = cc in subst (λ x. Whole zero x []) f (record { count = refl; bytes = refl })
rows_rewritten zero k before (b ∷ bs) rows long small e = absurd (omega arith)
rows_rewritten (suc n) k before bs rows long small e =
    let p = then_ok (read_row k before bs) _ rows e in
    let r = p.0 in
    let q = then_ok (read_rows n (k + 1) r.deadline (drop 28 bs)) _ rows p.1.1 in
    let rest = rows_rewritten n (k + 1) r.deadline (drop 28 bs) q.0 (length-drop 28 bs ∙ omega arith) (bytes_after bs small 28) q.1.0 in
    let f : r ∷ q.0 ≡ rows = cc q.1.1 in
    subst (λ x. Whole (suc n) x bs) f (record {
      count = ap suc rest.count;
      bytes = (λ i. row_rewritten bs small k before r (omega arith) p.1.0 i ++ rest.bytes i) ∙ take-append-drop 28 bs;
    })

pub writes_back : WritesBack
unfolding read_sheet
writes_back bs rows small e =
    let p = cond_ok (ltb (length bs) 16) Short _ rows e in
    let long : 16 ≤ length bs = ltb-false _ _ p.0 in
    let q = then_ok (read_header bs) _ rows p.1 in
    let n = q.0 in
    let r = cond_yes (eqb (length bs) (sheet_size n)) Length _ rows q.1.1 in
    let size : length bs ≡ sheet_size n = eqb-true _ _ r.0 in
    let w = rows_rewritten n 1 0 (drop 16 bs) rows (length-drop 16 bs ∙ omega arith) (bytes_after bs small 16) r.1 in
    (λ i. header_bytes (w.count i) ++ w.bytes i)
    ∙ ap (λ h. h ++ drop 16 bs) (header_rewritten bs small n long q.1.0)
    ∙ take-append-drop 16 bs
