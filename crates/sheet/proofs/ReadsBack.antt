-- The sheet of lawful rows says those rows.
use Rattle.std.proofs.Common.{unwrap_or, ◌≡◌, ℕ, zero, suc, ◌+◌, ◌*◌, ◌/◌, ◌%◌, ◌<◌, ◌≤◌, true, cond, eqb, List, [], ◌∷◌, ◌++◌, length, get_or, take, drop, Some, None, Ok, Err, Option, sym, refl, ap, ◌∙◌, arith, drop-cons, eqb-true}
use Rattle.std.proofs.lemmas.List.{drop_at, take_all}
use Rattle.std.proofs.lemmas.Bool.{and_parts}
use Rattle.std.proofs.lemmas.Bool.Decides.{nat_tests}
use Rattle.periods.specs.Periods.{cycle, period_of, named}
use Rattle.sheet.specs.declared.row.Row.{Row}
use Rattle.sheet.specs.declared.fault.Rule.{Rule}
use Rattle.sheet.specs.declared.fault.Fault.TheVariants.{RowCount, Header}
use Rattle.sheet.specs.Rows.{broken, intact, lawful_row, lawful_after}
use Rattle.sheet.specs.Sheet.{eight_bytes, header_bytes, row_bytes, rows_bytes, sheet_size, sheet_of}
use Rattle.sheet.specs.Reading.{row_in, judged, read_row, then, read_rows, bad_count, read_header}
use Rattle.sheet.specs.Laws.{ReadsBack}
use Rattle.sheet.proofs.Sizes.{length_row, length_header, length_sheet}
use Rattle.sheet.proofs.Named.{entry_within, entry_named}
use Rattle.sheet.proofs.Reading.{to_rows}
use Rattle.sheet.proofs.Accepted.{intact_entry}

-- a lawful row's numbers fit their fields, and its period is the one that its code names
record Fitting (r : Row) : Type 0 where
  label : length r.label ≡ 8
  phase : r.phase < 4294967296
  period : unwrap_or (named r.code) 0 ≡ r.period
  code : r.code < 65536
  execution : r.execution < 4294967296
  deadline : r.deadline < 4294967296
  hold : r.hold < 4294967296

lawful_fits : (before : ℕ) (r : Row) → lawful_row before r ≡ true → Fitting r
lawful_fits before r e =
    let parts = and_parts (intact (broken before r)) (eqb r.period (period_of r.code)) e in
    let keeps : intact (broken before r) ≡ true = parts.0 in
    let named_by : r.period ≡ period_of r.code = eqb-true _ _ parts.1 in
    let entry = intact_entry before r keeps in
    let within : period_of r.code ≤ cycle = entry_within r.code entry in
    let high : r.code ≤ 240 = grind (arith, nat_tests) in
    let far : r.deadline ≤ 4 * r.period = grind (arith, nat_tests) in
    let long : r.execution ≤ r.period = grind (arith, nat_tests) in
    let held : r.hold ≤ r.execution = grind (arith, nat_tests) in
    let first : r.phase ≤ cycle = grind (arith, nat_tests) in
    let name : length r.label ≡ 8 = grind (arith, nat_tests) in
    record {
      label = name;
      phase = omega arith;
      period = entry_named r.code entry ∙ sym named_by;
      code = omega arith;
      execution = omega arith;
      deadline = omega arith;
      hold = omega arith;
    }

four_back : (n : ℕ) → n < 4294967296 → n / 16777216 % 256 * 16777216 + n / 65536 % 256 * 65536 + n / 256 % 256 * 256 + n % 256 ≡ n
four_back n h =
    let first : n / 16777216 % 256 ≡ n / 16777216 = omega arith in
    let second : n / 65536 ≡ n / 16777216 * 256 + n / 65536 % 256 = omega arith in
    let third : n / 256 ≡ n / 65536 * 256 + n / 256 % 256 = omega arith in
    let fourth : n ≡ n / 256 * 256 + n % 256 = omega arith in
    omega arith

two_back : (n : ℕ) → n < 65536 → n / 256 % 256 * 256 + n % 256 ≡ n
two_back n h = omega arith

-- the n elements from place i on
abbrev pub upto : ℕ → ℕ → List ℕ → List ℕ
upto i zero l = []
upto i (suc n) l = get_or l i 0 ∷ upto (suc i) n l

pub upto_is : (l : List ℕ) (i n : ℕ) → i + n ≤ length l → upto i n l ≡ take n (drop i l)
upto_is l i zero h = refl
upto_is l i (suc n) h = ap (λ t. get_or l i 0 ∷ t) (upto_is l (suc i) n (omega arith)) ∙ sym (ap (take (suc n)) (drop-cons l i 0 (omega arith)))

pub eight_back : (l : List ℕ) → length l ≡ 8 → eight_bytes l ≡ l
eight_back l p = upto_is l 0 8 (omega arith) ∙ take_all 8 l (omega arith)

row_back : (r : Row) (more : List ℕ) → Fitting r → row_in (row_bytes r ++ more) ≡ r
unfolding row_bytes
row_back r more s =
    let code = two_back r.code s.code in
    let period = ap (λ n. unwrap_or (named n) 0) code ∙ s.period in
    λ i. record {
      label = eight_back r.label s.label i;
      phase = four_back r.phase s.phase i;
      period = period i;
      code = code i;
      execution = four_back r.execution s.execution i;
      deadline = four_back r.deadline s.deadline i;
      hold = four_back r.hold s.hold i;
    }

intact_none : (o : Option Rule) → intact o ≡ true → o ≡ None
intact_none None e = refl
intact_none (Some x) e = absurd (let z : ◌≡◌ {A = ℕ} 0 1 = cc in omega arith)

read_row_back : (k before : ℕ) (r : Row) (more : List ℕ) → lawful_row before r ≡ true → read_row k before (row_bytes r ++ more) ≡ Ok r
unfolding read_row row_bytes
read_row_back k before r more s =
    let keeps = (and_parts (intact (broken before r)) (eqb r.period (period_of r.code)) s).0 in
    ap (λ x. judged k x (broken before x)) (row_back r more (lawful_fits before r s)) ∙ ap (judged k r) (intact_none (broken before r) keeps)

rows_back : (rs : List Row) (k before : ℕ) → lawful_after before rs ≡ true → read_rows (length rs) k before (rows_bytes rs) ≡ Ok rs
rows_back [] k before s = refl
rows_back (r ∷ rs) k before s =
    let p = and_parts (lawful_row before r) (lawful_after r.deadline rs) s in
    ap (λ x. then x (λ q. then (read_rows (length rs) (k + 1) q.deadline (drop 28 (row_bytes r ++ rows_bytes rs))) (λ ts. Ok (q ∷ ts)))) (read_row_back k before r (rows_bytes rs) p.0)
    ∙ ap (λ b. then (read_rows (length rs) (k + 1) r.deadline b) (λ rs. Ok (r ∷ rs))) (drop_at (row_bytes r) (rows_bytes rs) 28 (length_row r))
    ∙ ap (λ x. then x (λ rs. Ok (r ∷ rs))) (rows_back rs (k + 1) r.deadline p.1)

header_by : (m s n : ℕ) → m ≡ n → s ≡ sheet_size n → 1 ≤ n → n ≤ 32 → cond (bad_count m) (Err RowCount) (cond (eqb s (sheet_size m)) (Ok m) (Err Header)) ≡ Ok n
header_by m s n p q lo hi = grind (arith, nat_tests)

header_back : (n : ℕ) (more : List ℕ) → 1 ≤ n → n ≤ 32 → read_header (header_bytes n ++ more) ≡ Ok n
unfolding header_bytes
header_back n more lo hi = header_by _ _ n (two_back n (omega arith)) (four_back (sheet_size n) (omega arith)) lo hi

pub reads_back : ReadsBack
reads_back rows lo hi s =
    let long = length_sheet rows in
    to_rows (sheet_of rows) (omega arith) (length rows) (header_back (length rows) (rows_bytes rows) lo hi) long
    ∙ ap (read_rows (length rows) 1 0) (drop_at (header_bytes (length rows)) (rows_bytes rows) 16 (length_header (length rows)))
    ∙ rows_back rows 1 0 s
