-- When a step is done.
use Rattle.std.proofs.Common.{◌≡◌, ℕ, cond, List, length, Some, None, Ok, Option, sym, refl, ap, ◌∙◌, ne_eqb, arith}
use Rattle.sheet.specs.declared.row.Row.{Row}
use Rattle.ready.specs.declared.job.Job.{Job}
use Rattle.rules.specs.declared.hand.Held.{Held}
use Rattle.duty_log.specs.declared.line.Outcome.{Outcome}
use Rattle.duty_log.specs.declared.refusal.StepRefusal.TheVariants.{LastClock}
use Rattle.rules.specs.State.{State}
use Rattle.rules.specs.Release.{released}
use Rattle.rules.specs.Tick.{tick}
use Rattle.rules.specs.declared.letter.Letter.{Letter}
use Rattle.rules.specs.Letters.{letter_of, or_no_letter}
use Rattle.rules.specs.Step.{last_clock, refused, done, step_by, step_running, step}
use Rattle.duty_bench.specs.declared.stage.Stage.{Stage}
use Rattle.duty_bench.specs.declared.stage.Stage.TheVariants.{Free, Holding as Keeping, Stopped}
use Rattle.duty_bench.specs.Model.{miss_of, limited}
use Rattle.duty_bench.proofs.Limits.{limited_step, limited_answer}

pub no_miss : (st : Stage) → ((h : Option Held) (m : Job) → st ≡ Stopped h m → ⊥) → miss_of st ≡ None
no_miss Free n = refl
no_miss (Keeping held) n = refl
no_miss (Stopped h m) n = absurd (n h m refl)

read_by : (rows : List Row) (o : Option Letter) (l : Letter) (s : State) → Ok l ≡ or_no_letter o → step_by rows o s ≡ done (tick rows l (released rows s))
read_by rows None l s e = let z : ◌≡◌ {A = ℕ} 0 1 = cc in absurd (omega arith)
read_by rows (Some k) l s e = ap (λ (r : Letter). done (tick rows r (released rows s))) (let h : k ≡ l = cc in h)

-- a bench that runs, before its last clock, with a letter
step_done : (rows : List Row) (c : ℕ) (l : Letter) (s : State) → s.miss ≡ None → (s.clock ≡ last_clock → ⊥)
    → Ok l ≡ or_no_letter (letter_of c) → step rows c s ≡ done (tick rows l (released rows s))
step_done rows c l s miss early read =
    ap (λ m. step_running rows c m s) miss
    ∙ ap (λ b. cond b (refused LastClock s) (step_by rows (letter_of c) s)) (ne_eqb s.clock last_clock early)
    ∙ read_by rows (letter_of c) l s read

-- what the releases and a tick leave of all 32 tasks is a step of the rows' tasks
module _ (here rows : List Row) (c : ℕ) (l : Letter) (s : State) (same : here ≡ rows) (miss : s.miss ≡ None) (early : s.clock ≡ last_clock → ⊥)
    (read : Ok l ≡ or_no_letter (letter_of c)) where
  pub step_state : (after : State) → after ≡ (tick here l (released here s)).state
      → limited (length rows) after ≡ (step rows c (limited (length rows) s)).state
  step_state after is =
      ap (limited (length rows)) is ∙ (λ i. limited (length rows) (tick (same i) l (released (same i) s)).state)
      ∙ limited_step rows l s ∙ sym (ap (λ x. x.state) (step_done rows c l (limited (length rows) s) miss early read))

  pub step_answer : (o : Outcome) → o ≡ (tick here l (released here s)).outcome → Ok o ≡ (step rows c (limited (length rows) s)).answer
  step_answer o is =
      ap Ok (is ∙ (λ i. (tick (same i) l (released (same i) s)).outcome) ∙ limited_answer rows l s)
      ∙ sym (ap (λ x. x.answer) (step_done rows c l (limited (length rows) s) miss early read))
