use Rattle.std.proofs.Common.{◌≡◌, ◌≤◌, ◌/◌, length, take, Ok, Err, sym, refl, ap, ◌∙◌, arith}
use Rattle.std.proofs.lemmas.Result.{err_from_is_err_and}
use Rattle.sheet.specs.Reading.{read_header, read_rows, read_sheet}
use Rattle.sheet.specs.Laws.{Bytes}
use Rattle.sheet.proofs.Fronts.{header_same}
use Rattle.sheet.proofs.Reading.{short, bad_header, bad_length, to_rows, header_count, refuses, accepts}
use Rattle.sheet.proofs.Accepted.{rows_lawful}
use Rattle.sheet.proofs.WritesBack.{writes_back}
use Rattle.sheet.proofs.table.Table.read.Goals as goal
use Rattle.sheet.proofs.table.Table.read.Goals.{In-Some, In_ok-count, Else-bytes-sheet_size, In_ok-self}

pub returns-in_default-clause-said : goal.returns-in_default-clause-said
returns-in_default-clause-said c = refuses _ (short c.args.bytes.now c.in_default.ensures.cases) refl refl

long : (c : In-Some) → 16 ≤ length c.args.bytes.now
long c = omega (arith, c.in-Some.ensures.cases.2)

-- the header's bytes say what the sheet's do
header_says : (c : In-Some) → read_header c.args.bytes.now ≡ read_header c.in-Some.header.now
header_says c = sym (header_same c.args.bytes.now 16 (omega arith)) ∙ ap read_header (sym c.in-Some.ensures.cases.0)

pub returns-in_err-count-clause-said : goal.returns-in_err-count-clause-said
returns-in_err-count-clause-said c =
    let p = err_from_is_err_and c.from_residual.result c.from_residual.ensures.1 in
    let says = header_says (goal.at.returns-in_err-count-clause-said c).In-Some ∙ sym c.in_err-count.ensures in
    refuses _ (bad_header c.args.bytes.now (long (goal.at.returns-in_err-count-clause-said c).In-Some) _ says) (p.1 ∙ ap Err p.2) refl

count_says : (c : In_ok-count) → read_header c.args.bytes.now ≡ Ok c.in_ok-count.count
count_says c = header_says (goal.at.In_ok-count c).In-Some ∙ sym c.in_ok-count.ensures

pub returns-then-bytes-sheet_size-clause-said : goal.returns-then-bytes-sheet_size-clause-said
returns-then-bytes-sheet_size-clause-said c =
    refuses _
    (bad_length c.args.bytes.now (long (goal.at.returns-then-bytes-sheet_size-clause-said c).In-Some) _ (count_says (goal.at.returns-then-bytes-sheet_size-clause-said c).In_ok-count) (λ h. c.if-bytes-sheet_size.true (h ∙ sym c.sheet_size.ensures)))
    refl refl

count_is : (c : Else-bytes-sheet_size) → c.in_ok-count.count ≡ length c.in-Some.rows.now / 28
count_is c = omega (arith, c.in-Some.ensures.cases.2, c.if-bytes-sheet_size.false, c.sheet_size.ensures)

-- the sheet says what the bytes after the header do
rest_says : (c : Else-bytes-sheet_size) → read_sheet c.args.bytes.now ≡ read_rows (length c.in-Some.rows.now / 28) 1 0 c.in-Some.rows.now
rest_says c =
    to_rows c.args.bytes.now (long (goal.at.Else-bytes-sheet_size c).In-Some) c.in_ok-count.count (count_says (goal.at.Else-bytes-sheet_size c).In_ok-count) (c.if-bytes-sheet_size.false ∙ c.sheet_size.ensures)
    ∙ (λ i. read_rows (count_is c i) 1 0 (sym c.in-Some.ensures.cases.1 i))

pub returns-in_err-self-clause-said : goal.returns-in_err-self-clause-said
returns-in_err-self-clause-said c =
    let p = err_from_is_err_and c.from_residual-in_err-self.result c.from_residual-in_err-self.ensures.1 in
    refuses _ (rest_says (goal.at.returns-in_err-self-clause-said c).Else-bytes-sheet_size ∙ c.in_err-self.ensures) (p.1 ∙ ap Err p.2) refl

rows_say : (c : In_ok-self) → read_sheet c.args.bytes.now ≡ Ok (take c.in_ok-count.count c.in_ok-self.field-0)
rows_say c =
    let before = (goal.at.In_ok-self c).Else-bytes-sheet_size in
    rest_says before ∙ c.in_ok-self.ensures.0 ∙ ap (λ n. Ok (take n c.in_ok-self.field-0)) (sym (count_is before))

pub invariant_of-self : goal.invariant_of-self
invariant_of-self c =
    let before = (goal.at.invariant_of-self c).Else-bytes-sheet_size in
    let count = count_is before in
    let few = header_count c.args.bytes.now _ (count_says (goal.at.invariant_of-self c).In_ok-count) in
    record {
      some = few.0;
      few = few.1;
      lawful = rows_lawful _ 1 0 _ _ (sym (rest_says before) ∙ rows_say c);
      full = c.in_ok-self.ensures.1;
      padded = λ k past. c.in_ok-self.ensures.2 k (omega arith);
    }

pub returns-clause-said : goal.returns-clause-said
returns-clause-said c = accepts _ _ (rows_say (goal.at.returns-clause-said c).In_ok-self) refl

pub returns-clause-rewritten : goal.returns-clause-rewritten
returns-clause-rewritten c _ =
    let small : Bytes c.args.bytes.now = λ k. omega (arith, c.type_inv.bytes k) in
    writes_back c.args.bytes.now _ small (rows_say (goal.at.returns-clause-rewritten c).In_ok-self)
