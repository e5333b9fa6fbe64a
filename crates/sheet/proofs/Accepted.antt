-- What the reader accepts is lawful.
use Rattle.std.proofs.Common.{unwrap_or, ◌≡◌, ℕ, zero, suc, ◌+◌, Bool, true, false, cond, eqb, List, [], ◌∷◌, drop, Some, None, Ok, Err, Option, Result, sym, refl, ap, subst, arith, eq-eqb}
use Rattle.std.proofs.lemmas.Bool.{and_from}
use Rattle.std.proofs.lemmas.Bool.Decides.{nat_tests}
use Rattle.periods.specs.Periods.{no_entry, period_of, named}
use Rattle.sheet.specs.declared.row.Row.{Row}
use Rattle.sheet.specs.declared.fault.Rule.{Rule}
use Rattle.sheet.specs.declared.fault.Fault.{Fault}
use Rattle.sheet.specs.Rows.{broken, intact, lawful_row, lawful_after}
use Rattle.sheet.specs.Sheet.{two_at}
use Rattle.sheet.specs.Reading.{row_in, closed, judged, read_row, then, read_rows}
use Rattle.sheet.proofs.Named.{entry_named}

-- what an Ok comes from
pub refused_not : {A B : Type 0} (f : Fault) (y : A) → ◌≡◌ {A = Result A Fault} (Err f) (Ok y) → B
refused_not f y e = absurd (let z : ◌≡◌ {A = ℕ} 0 1 = cc in omega arith)

pub cond_ok : {A : Type 0} (b : Bool) (f : Fault) (x : Result A Fault) (y : A) → cond b (Err f) x ≡ Ok y → (b ≡ false) × (x ≡ Ok y)
cond_ok true f x y e = refused_not f y e
cond_ok false f x y e = (refl, e)

pub cond_yes : {A : Type 0} (b : Bool) (f : Fault) (x : Result A Fault) (y : A) → cond b x (Err f) ≡ Ok y → (b ≡ true) × (x ≡ Ok y)
cond_yes true f x y e = (refl, e)
cond_yes false f x y e = refused_not f y e

pub then_ok : {A B : Type 0} (x : Result A Fault) (f : A → Result B Fault) (y : B) → then x f ≡ Ok y → (a : A) × ((x ≡ Ok a) × (f a ≡ Ok y))
then_ok (Ok a) f y e = (a, (refl, e))
then_ok (Err g) f y e = refused_not g y e

pub judged_ok : (k : ℕ) (r s : Row) (o : Option Rule) → judged k r o ≡ Ok s → (r ≡ s) × (o ≡ None)
judged_ok k r s None e = (cc, refl)
judged_ok k r s (Some rule) e = refused_not _ s e

-- a row that breaks no rule has an entry of the period list
pub intact_entry : (before : ℕ) (r : Row) → intact (broken before r) ≡ true → no_entry r.code ≡ false
intact_entry before r e = grind (arith, nat_tests)

-- a row that is read
pub record ReadRow (before : ℕ) (bs : List ℕ) (r : Row) : Type 0 where
  pub is : row_in bs ≡ r
  pub ends : closed bs ≡ true
  pub keeps : intact (broken before r) ≡ true

pub row_read : (k before : ℕ) (bs : List ℕ) (r : Row) → read_row k before bs ≡ Ok r → ReadRow before bs r
unfolding read_row
row_read k before bs r e =
    let p = cond_yes (closed bs) _ _ r e in
    let q = judged_ok k (row_in bs) r _ p.1 in
    record { is = q.0; ends = p.0; keeps = subst (λ x. intact (broken before x) ≡ true) q.0 (ap intact q.1) }

named_right : (bs : List ℕ) → no_entry (two_at bs 24) ≡ false → eqb (row_in bs).period (period_of (row_in bs).code) ≡ true
named_right bs e = eq-eqb (unwrap_or (named (two_at bs 24)) 0) (period_of (two_at bs 24)) (entry_named (two_at bs 24) e)

row_lawful : (before : ℕ) (bs : List ℕ) (r : Row) → ReadRow before bs r → lawful_row before r ≡ true
row_lawful before bs r h =
    let entry : no_entry (row_in bs).code ≡ false = subst (λ x. no_entry x.code ≡ false) (sym h.is) (intact_entry before r h.keeps) in
    and_from _ _ h.keeps (subst (λ x. eqb x.period (period_of x.code) ≡ true) h.is (named_right bs entry))

pub rows_lawful : (n k before : ℕ) (bs : List ℕ) (rs : List Row) → read_rows n k before bs ≡ Ok rs → lawful_after before rs ≡ true
rows_lawful zero k before bs rs e = let f : [] ≡ rs = cc in subst (λ x. lawful_after before x ≡ true) f refl
rows_lawful (suc n) k before bs rs e =
    let p = then_ok (read_row k before bs) _ rs e in
    let r = p.0 in
    let q = then_ok (read_rows n (k + 1) r.deadline (drop 28 bs)) _ rs p.1.1 in
    let f : r ∷ q.0 ≡ rs = cc q.1.1 in
    subst (λ x. lawful_after before x ≡ true) f
    (and_from _ _ (row_lawful before bs r (row_read k before bs r p.1.0)) (rows_lawful n (k + 1) r.deadline (drop 28 bs) q.0 q.1.0))
