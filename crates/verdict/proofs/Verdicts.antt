-- What the first failing row is, and that an admitted table's rows all pass.
use Rattle.std.proofs.Common.{◌≡◌, ℕ, zero, suc, ◌+◌, ◌<◌, ◌≤◌, Bool, true, false, cond, List, length, sym, refl, ap, ◌∙◌, ⊎_elim, arith}
use Rattle.std.proofs.lemmas.Bool.{cases_eq, cond-true, cond-false, leb-true, leb-false, le-leb, lt-leb}
use Rattle.sheet.specs.declared.row.Row.{Row}
use Rattle.verdict.specs.declared.answer.Verdict.TheVariants.{Admitted, FailsAt}
use Rattle.verdict.specs.Test.{passes, first_failing, verdict_of}
use Rattle.verdict.specs.Laws.{AllPass, Exact}

-- each of n rows from row k on passes
PassFrom : (n k : ℕ) → List Row → Type 0
PassFrom n k rows = (j : ℕ) → k ≤ j → j < k + n → passes j rows ≡ true

-- row j is the first of n rows from row k on that does not pass
record FailsFirst (n k j : ℕ) (rows : List Row) : Type 0 where
  low : k ≤ j
  high : j < k + n
  fails : passes j rows ≡ false
  before : (i : ℕ) → k ≤ i → i < j → passes i rows ≡ true

admitted_from : (n k : ℕ) (rows : List Row) → first_failing n k rows ≡ Admitted → PassFrom n k rows
unfolding PassFrom
admitted_from zero k rows e j low high = absurd (omega arith)
admitted_from (suc n) k rows e j low high = go (λ f other. admitted_from n (suc k) rows f j (omega arith) (omega arith)) (passes k rows) refl e
  where
    go : (first_failing n (suc k) rows ≡ Admitted → (j ≡ k → ⊥) → passes j rows ≡ true) → (t : Bool) → passes k rows ≡ t
        → cond t (first_failing n (suc k) rows) (FailsAt k) ≡ Admitted → passes j rows ≡ true
    go more true p e = ⊎_elim (λ same. ap (λ m. passes m rows) same ∙ p) (more e) (cases_eq j k)
    go more false p e = let z : ◌≡◌ {A = ℕ} 0 1 = cc in absurd (omega arith)

passing_from : (n k : ℕ) (rows : List Row) → PassFrom n k rows → first_failing n k rows ≡ Admitted
unfolding PassFrom
passing_from zero k rows p = refl
passing_from (suc n) k rows p =
    cond-true (passes k rows) _ _ (p k (omega arith) (omega arith))
    ∙ passing_from n (suc k) rows (λ j low high. p j (omega arith) (omega arith))

refused_from : (n k j : ℕ) (rows : List Row) → first_failing n k rows ≡ FailsAt j → FailsFirst n k j rows
refused_from zero k j rows e = let z : ◌≡◌ {A = ℕ} 0 1 = cc in absurd (omega arith)
refused_from (suc n) k j rows e = go (λ f. refused_from n (suc k) j rows f) (passes k rows) refl e
  where
    go : (first_failing n (suc k) rows ≡ FailsAt j → FailsFirst n (suc k) j rows) → (t : Bool) → passes k rows ≡ t
        → cond t (first_failing n (suc k) rows) (FailsAt k) ≡ FailsAt j → FailsFirst (suc n) k j rows
    go more true p e =
        let f : FailsFirst n (suc k) j rows = more e in
        record {
          low = omega arith;
          high = omega arith;
          fails = f.fails;
          before = λ i low high. ⊎_elim (λ same. ap (λ m. passes m rows) same ∙ p) (λ other. f.before i (omega arith) high) (cases_eq i k);
        }
    go more false p e =
        let same : k ≡ j = cc in
        record { low = omega arith; high = omega arith; fails = ap (λ m. passes m rows) (sym same) ∙ p; before = λ i low high. absurd (omega arith) }

failing_from : (n k j : ℕ) (rows : List Row) → FailsFirst n k j rows → first_failing n k rows ≡ FailsAt j
failing_from zero k j rows f = absurd (omega arith)
failing_from (suc n) k j rows f =
    ⊎_elim
    (λ same. cond-false (passes k rows) _ _ (ap (λ m. passes m rows) (sym same) ∙ f.fails) ∙ ap FailsAt (sym same))
    (λ other.
    cond-true (passes k rows) _ _ (f.before k (omega arith) (omega arith))
    ∙ failing_from n (suc k) j rows (record { low = omega arith; high = omega arith; fails = f.fails; before = λ i low high. f.before i (omega arith) high }))
    (cases_eq j k)

-- Each row of an admitted table passes.
pub admitted_passes : (rows : List Row) → verdict_of rows ≡ Admitted → (k : ℕ) → 1 ≤ k → k ≤ length rows → passes k rows ≡ true
unfolding PassFrom
admitted_passes rows e k low high = admitted_from (length rows) 1 rows e k low (omega arith)

-- So no more is asked up to its deadline than there is.
pub admitted_fits : (rows : List Row) → verdict_of rows ≡ Admitted → AllPass rows
admitted_fits rows e k low high = leb-true _ _ (admitted_passes rows e k low high)

pub exact : (rows : List Row) → Exact rows
unfolding PassFrom
exact rows = record {
  admitted = admitted_fits rows;
  passing = λ fit. passing_from (length rows) 1 rows (λ j low high. le-leb _ _ (fit j low (omega arith)));
  refused = λ k e.
      let f : FailsFirst (length rows) 1 k rows = refused_from (length rows) 1 k rows e in
      record { counted = f.low; stands = omega arith; fails = leb-false _ _ f.fails; before = λ j low high. leb-true _ _ (f.before j low high) };
  failing = λ k f.
      failing_from (length rows) 1 k rows
      (record { low = f.counted; high = omega arith; fails = lt-leb _ _ f.fails; before = λ j low high. le-leb _ _ (f.before j low high) });
}
