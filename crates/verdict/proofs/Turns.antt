-- One turn of the loop over the rows: the running sums are those of the rule at the next row.
use Rattle.std.proofs.Common.{◌≡◌, ℕ, suc, ◌+◌, ◌-◌, ◌*◌, ◌<◌, Bool, true, false, cond, leb, List, [], length, get_or, take, sum_by, sym, ap, ◌∙◌, add-one, arith}
use Rattle.std.proofs.lemmas.List.{get_or_default}
use Rattle.std.proofs.lemmas.List.Sums.{sum_by_more}
use Rattle.std.proofs.lemmas.Bool.{cond-true, cond-false}
use Rattle.periods.specs.Periods.{cycle}
use Rattle.sheet.specs.declared.row.Row.{Row}
use Rattle.sheet.specs.Rows.{blank}
use Rattle.verdict.specs.declared.answer.Verdict.TheVariants.{FailsAt}
use Rattle.verdict.specs.Test.{row_at, load_to, shortfall_to, blocking_after, passes, first_failing, verdict_of}

-- what stands past the end of a slice, for the prover
abbrev pub zeroes : Row
zeroes = record { label = []; phase = 0; period = 0; code = 0; execution = 0; deadline = 0; hold = 0 }

row_at_next : (rows : List Row) (i : ℕ) → i < length rows → row_at (i + 1) rows ≡ get_or rows i zeroes
row_at_next rows i h =
    let e : i + 1 - 1 ≡ i = omega arith in
    ap (λ k. get_or rows k blank) e ∙ get_or_default rows i blank zeroes h

pub sum_more : (f : Row → ℕ) (rows : List Row) (i s x : ℕ) → i < length rows → s ≡ sum_by f (take i rows) → x ≡ f (get_or rows i zeroes)
    → s + x ≡ sum_by f (take (i + 1) rows)
sum_more f rows i s x h p q = (λ j. p j + q j) ∙ sym (sum_by_more f rows i zeroes h)

module _ (rows : List Row) (i : ℕ) (inside : i < length rows) where
  -- the test at the code's numbers is the rule's
  pub passes_next : (s g b : ℕ) (t : Bool) → s ≡ load_to (i + 1) rows → g ≡ shortfall_to (i + 1) rows → b ≡ blocking_after (i + 1) rows
      → t ≡ leb ((get_or rows i zeroes).deadline * s + g + b * cycle) (cycle * (get_or rows i zeroes).deadline) → t ≡ passes (i + 1) rows
  passes_next s g b t p q r e =
      e ∙ (λ j. leb ((sym (row_at_next rows i inside) j).deadline * p j + q j + r j * cycle) (cycle * (sym (row_at_next rows i inside) j).deadline))

  -- row i + 1 decides, or the rows after it do
  turn : verdict_of rows ≡ first_failing (length rows - i) (i + 1) rows
      → verdict_of rows ≡ cond (passes (i + 1) rows) (first_failing (length rows - (i + 1)) (i + 1 + 1) rows) (FailsAt (i + 1))
  turn e =
      let left : length rows - i ≡ suc (length rows - (i + 1)) = omega arith in
      e ∙ ap (λ n. first_failing n (i + 1) rows) left
      ∙ ap (λ k. cond (passes (i + 1) rows) (first_failing (length rows - (i + 1)) k rows) (FailsAt (i + 1))) (sym (add-one (i + 1)))

  pub passes_on : true ≡ passes (i + 1) rows → verdict_of rows ≡ first_failing (length rows - i) (i + 1) rows
      → verdict_of rows ≡ first_failing (length rows - (i + 1)) (i + 1 + 1) rows
  passes_on p e = turn e ∙ cond-true (passes (i + 1) rows) _ _ (sym p)

  pub fails_here : false ≡ passes (i + 1) rows → verdict_of rows ≡ first_failing (length rows - i) (i + 1) rows → verdict_of rows ≡ FailsAt (i + 1)
  fails_here p e = turn e ∙ cond-false (passes (i + 1) rows) _ _ (sym p)
