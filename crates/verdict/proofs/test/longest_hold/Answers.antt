use Rattle.std.proofs.Common.{◌≡◌, ℕ, max, List, [], ◌∷◌, fold, ◌∙◌, arith, rules}
use Rattle.sheet.specs.declared.row.Row.{Row}
use Rattle.verdict.specs.Test.{longest_hold}
use Rattle.verdict.proofs.test.longest_hold.Goals as goal

-- the longest so far and the longest to come make the longest of all
longest_from : (rows : List Row) (longest : ℕ) → fold (λ a r. max a r.hold) longest rows ≡ max longest (longest_hold rows)
longest_from [] longest = omega arith
longest_from (r ∷ rows) longest = longest_from rows (max longest r.hold) ∙ omega arith

pub returns : goal.returns
returns c = let e : c.fold.result ≡ fold (λ a r. max a r.hold) 0 c.args.rows.now = search rules in e ∙ longest_from c.args.rows.now 0 ∙ omega arith
