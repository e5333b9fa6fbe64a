-- One call more of a run, and a run of all that an iterator gives.
use Rattle.std.proofs.Common.{◌≡◌, ℕ, ◌+◌, ◌<◌, List, [], ◌∷◌, ◌++◌, map, map-id, length, get_or, take, sym, refl, ap, ◌∙◌, Option}
use Rattle.std.specs.Iterator.{Drains}
use Rattle.std.proofs.iter.Yields.{gives_Drains}
use Rattle.std.proofs.lemmas.Iterator.{YieldsList}
use Rattle.std.proofs.lemmas.List.{map_more, map-append}
use Rattle.sheet.specs.declared.row.Row.{Row}
use Rattle.rules.specs.declared.call.Call.{Call}
use Rattle.rules.specs.declared.call.Call.TheVariants.{Step}
use Rattle.rules.specs.declared.closing.Closing.{Closing}
use Rattle.rules.specs.State.{State}
use Rattle.rules.specs.Step.{step}
use Rattle.rules.specs.Run.{called, run_from, after_run, closing_of}
use Rattle.rules.proofs.CallsMade.{run_append}

pub run_push : (rows : List Row) (calls : List Call) (c : Call) (s : State) → run_from rows (calls ++ c ∷ []) s ≡ called rows c (run_from rows calls s)
run_push rows [] c s = refl
run_push rows (d ∷ calls) c s = run_push rows calls c (called rows d s)

-- one letter more
pub next_letter : (rows here : List Row) (letters : List ℕ) (i letter : ℕ) (start s after : State) → i < length letters → here ≡ rows → letter ≡ get_or letters i 0
    → after ≡ (step here letter s).state → s ≡ run_from rows (map Step (take i letters)) start
    → after ≡ run_from rows (map Step (take (i + 1) letters)) start
next_letter rows here letters i letter start s after h same is e inv =
    e ∙ (λ k. (step (same k) (is k) (inv k)).state)
    ∙ sym (run_push rows (map Step (take i letters)) (Step (get_or letters i 0)) start)
    ∙ ap (λ cs. run_from rows cs start) (sym (map_more Step letters i 0 h))

-- some letters more
pub more_letters : (then : List ℕ) (rows here : List Row) (start s after : State) → here ≡ rows
    → ((first : List ℕ) × (s ≡ run_from rows (map Step first) start)) → after ≡ run_from here (map Step then) s
    → (letters : List ℕ) × (after ≡ run_from rows (map Step letters) start)
more_letters then rows here start s after same (first, inv) e = (
  first ++ then,
  e ∙ (λ k. run_from (same k) (map Step then) (inv k))
      ∙ sym (run_append rows (map Step first) (map Step then) start)
      ∙ ap (λ cs. run_from rows cs start) (sym (map-append Step first then)),
)

-- the calls made were all that the iterator gives
pub closing_of_all : {S : Type 0} {steps : S → Option Call → S → Type 0} {s : S} {all : List Call} {closing : Closing} (rows : List Row)
    → ((list : List Call) × Drains steps s list × (closing ≡ closing_of (after_run rows list)))
    → YieldsList steps (λ c. c) s all → closing ≡ closing_of (after_run rows all)
closing_of_all {steps = steps} {s} {all} rows made gives =
    made.2 ∙ ap (λ list. closing_of (after_run rows list)) (sym (map-id made.0) ∙ gives_Drains steps (λ c. c) made.0 all s gives.runs made.1)
