-- How the readers' steps follow what the sheet says.
use Rattle.std.proofs.Common.{◌≡◌, ℕ, suc, ◌+◌, ◌-◌, ◌<◌, ◌≤◌, Bool, true, false, Some, None, cond, unwrap_or, eqb, List, [], ◌∷◌, ◌++◌, length, take, drop, Ok, Err, Result, sym, refl, ap, ◌∙◌, subst, append_assoc, arith, le-ltb, lt-ltb, eq-eqb, ne_eqb}
use Rattle.std.specs.List.{list_all}
use Rattle.std.proofs.lemmas.List.{length-take-le}
use Rattle.std.proofs.lemmas.Bool.{cond-true, cond-false}
use Rattle.std.proofs.lemmas.Bool.Decides.{nat_tests}
use Rattle.periods.specs.Periods.{named, no_entry}
use Rattle.sheet.specs.declared.row.Row.{Row}
use Rattle.sheet.specs.declared.fault.Fault.{Fault}
use Rattle.sheet.specs.declared.fault.Rule.{Rule}
use Rattle.sheet.specs.declared.fault.Rule.TheVariants.{Text, Code}
use Rattle.sheet.specs.declared.fault.Fault.TheVariants.{Short, RowCount, Header, Length, Broken}
use Rattle.sheet.specs.declared.table.Table.{Table}
use Rattle.sheet.specs.Sheet.{two_at, four_at, sheet_size}
use Rattle.sheet.specs.Rows.{broken, lawful_label, printable}
use Rattle.sheet.proofs.Named.{no_name}
use Rattle.sheet.specs.Reading.{row_in, closed, judged, then, header_stands, bad_count, read_row, read_rows, read_header, read_sheet, Reads}
use Rattle.sheet.specs.Tables.{rows_of}

-- a row in its bytes
module _ (k before : ℕ) (bs : List ℕ) where
  pub row_unclosed : closed bs ≡ false → read_row k before bs ≡ Err (Broken Text k)
  unfolding read_row
  row_unclosed e = cond-false _ _ _ e

  pub row_breaks : (rule : Rule) → closed bs ≡ true → broken before (row_in bs) ≡ Some rule → read_row k before bs ≡ Err (Broken rule k)
  unfolding read_row
  row_breaks rule e f = cond-true _ _ _ e ∙ ap (judged k (row_in bs)) f

  pub row_keeps : closed bs ≡ true → broken before (row_in bs) ≡ None → read_row k before bs ≡ Ok (row_in bs)
  unfolding read_row
  row_keeps e f = cond-true _ _ _ e ∙ ap (judged k (row_in bs)) f

  -- the first two rules, at the label and at the code
  pub row_text : closed bs ≡ true → list_all printable (take 8 bs) ≡ false → read_row k before bs ≡ Err (Broken Text k)
  row_text e f = row_breaks Text e (let bad : lawful_label (take 8 bs) ≡ false = grind (arith, nat_tests) in grind (arith, nat_tests))

  pub row_code : closed bs ≡ true → length bs ≡ 28 → list_all printable (take 8 bs) ≡ true → named (two_at bs 24) ≡ None → read_row k before bs ≡ Err (Broken Code k)
  row_code e long f none =
      let eight : length (take 8 bs) ≡ 8 = length-take-le 8 bs (omega arith) in
      let label : lawful_label (take 8 bs) ≡ true = grind (arith, nat_tests) in
      let entry : no_entry (two_at bs 24) ≡ true = no_name (two_at bs 24) none in
      row_breaks Code e (grind (arith, nat_tests))

  -- the code's row, whose period is the one that the code names
  pub row_is : {label : List ℕ} {phase period code execution deadline hold : ℕ} → label ≡ take 8 bs → phase ≡ four_at bs 8 → named code ≡ Some period → code ≡ two_at bs 24
      → execution ≡ four_at bs 12 → deadline ≡ four_at bs 16 → hold ≡ four_at bs 20
      → record { label = label; phase = phase; period = period; code = code; execution = execution; deadline = deadline; hold = hold } ≡ row_in bs
  row_is l p q c e d h =
      let right : _ ≡ unwrap_or (named (two_at bs 24)) 0 = ap (λ o. unwrap_or o 0) (sym q) ∙ ap (λ n. unwrap_or (named n) 0) c in
      λ i. record { label = l i; phase = p i; period = right i; code = c i; execution = e i; deadline = d i; hold = h i }

-- the ways before the rows
pub short : (bs : List ℕ) → length bs < 16 → read_sheet bs ≡ Err Short
unfolding read_sheet
short bs h = rw (lt-ltb (length bs) 16 h)

module _ (bs : List ℕ) (long : 16 ≤ length bs) where
  after : Result ℕ Fault → Result (List Row) Fault
  after r = then r (λ count. cond (eqb (length bs) (sheet_size count)) (read_rows count 1 0 (drop 16 bs)) (Err Length))

  opened : read_sheet bs ≡ after (read_header bs)
  unfolding read_sheet after
  opened = ap (λ b. cond b (Err Short) (after (read_header bs))) (le-ltb (length bs) 16 long)

  pub bad_header : (f : Fault) → read_header bs ≡ Err f → read_sheet bs ≡ Err f
  unfolding after
  bad_header f e = opened ∙ ap after e

  pub bad_length : (n : ℕ) → read_header bs ≡ Ok n → (length bs ≡ sheet_size n → ⊥) → read_sheet bs ≡ Err Length
  unfolding after
  bad_length n e h = opened ∙ ap after e ∙ ap (λ b. cond b (read_rows n 1 0 (drop 16 bs)) (Err Length)) (ne_eqb _ _ h)

  pub to_rows : (n : ℕ) → read_header bs ≡ Ok n → length bs ≡ sheet_size n → read_sheet bs ≡ read_rows n 1 0 (drop 16 bs)
  unfolding after
  to_rows n e h = opened ∙ ap after e ∙ ap (λ b. cond b (read_rows n 1 0 (drop 16 bs)) (Err Length)) (eq-eqb _ _ h)

pub header_count : (bs : List ℕ) (n : ℕ) → read_header bs ≡ Ok n → (1 ≤ n) × (n ≤ 32)
header_count bs n e = count_by (two_at bs 0) n (header_stands bs) e
  where
    count_by : (m n : ℕ) (b : Bool) → cond (bad_count m) (Err RowCount) (cond b (Ok m) (Err Header)) ≡ Ok n → (1 ≤ n) × (n ≤ 32)
    count_by m n b e = grind (arith, nat_tests)

-- what comes of the rows in `front` before those that are still to be read
abbrev pub ahead : List Row → Result (List Row) Fault → Result (List Row) Fault
ahead front r = then r (λ rs. Ok (front ++ rs))

ahead_more : (front : List Row) (r : Row) (x : Result (List Row) Fault) → ahead front (then x (λ rs. Ok (r ∷ rs))) ≡ ahead (front ++ r ∷ []) x
ahead_more front r (Ok rs) = ap Ok (sym (append_assoc front (r ∷ []) rs))
ahead_more front r (Err f) = refl

pub ahead_none : (n : ℕ) (bs : List ℕ) → read_rows n 1 0 bs ≡ ahead [] (read_rows (n - 0) 1 0 bs)
ahead_none n bs = let z : n ≡ n - 0 = omega arith in none _ ∙ ap (λ m. ahead [] (read_rows m 1 0 bs)) z
  where
    none : (x : Result (List Row) Fault) → x ≡ ahead [] x
    none (Ok rs) = refl
    none (Err f) = refl

module _ (whole : Result (List Row) Fault) (front : List Row) (n k before : ℕ) (rest : List ℕ) (on : k < n) (inv : whole ≡ ahead front (read_rows (n - k) (k + 1) before rest)) where
  turn : Result Row Fault → Result (List Row) Fault
  turn x = ahead front (then x (λ r. then (read_rows (n - (k + 1)) (k + 1 + 1) r.deadline (drop 28 rest)) (λ rs. Ok (r ∷ rs))))

  turned : whole ≡ turn (read_row (k + 1) before rest)
  unfolding turn
  turned = let e : n - k ≡ suc (n - (k + 1)) = omega arith in inv ∙ ap (λ m. ahead front (read_rows m (k + 1) before rest)) e

  pub row_fails : (f : Fault) → read_row (k + 1) before rest ≡ Err f → whole ≡ Err f
  unfolding turn
  row_fails f e = turned ∙ ap turn e

  pub row_stands : (r : Row) → read_row (k + 1) before rest ≡ Ok r → whole ≡ ahead (front ++ r ∷ []) (read_rows (n - (k + 1)) (k + 1 + 1) r.deadline (drop 28 rest))
  unfolding turn
  row_stands r e = turned ∙ ap turn e ∙ ahead_more front r _

-- what a call of `read` owes at its ends
pub refuses : {s : Result (List Row) Fault} {r : Result Unit Fault} {old new : Table} (f : Fault) → s ≡ Err f → r ≡ Err f → new ≡ old → Reads s r old new
refuses {r = r} {old} {new} f e p q = subst (λ s. Reads s r old new) (sym e) (p, q)

pub accepts : {s : Result (List Row) Fault} {r : Result Unit Fault} (old new : Table) → s ≡ Ok (rows_of new) → r ≡ Ok tt → Reads s r old new
accepts {r = r} old new e p = subst (λ s. Reads s r old new) (sym e) (p, refl)
