-- Which steps are done and which are refused.
use Rattle.std.proofs.Common.{◌≡◌, ℕ, ◌+◌, ◌<◌, Bool, cond, List, Some, None, Option, refl, ap, ◌∙◌, arith}
use Rattle.std.proofs.lemmas.Bool.{eq-eqb, ne_eqb}
use Rattle.sheet.specs.declared.row.Row.{Row}
use Rattle.sheet.specs.Tables.{rows_of}
use Rattle.ready.specs.declared.job.Job.{Job}
use Rattle.duty_log.specs.declared.refusal.StepRefusal.TheVariants.{LastClock}
use Rattle.rules.specs.State.{State}
use Rattle.rules.specs.Release.{released}
use Rattle.rules.specs.declared.letter.Letter.{Letter}
use Rattle.rules.specs.declared.letter.Letter.TheVariants.{Run, Hold, Finish}
use Rattle.rules.specs.Tick.{Turn, nobody, runs, turn_of, after_turn, line_of, tick}
use Rattle.rules.specs.Letters.{letter_of}
use Rattle.rules.specs.Step.{Stepped, refused, done, step_by, step_running, step}
use Rattle.rules.specs.Run.{after_run}
use Rattle.rules.specs.Promises.{EveryRun}
use Rattle.rules.specs.Progress.{Taken, NoLetter, Steps}
use Rattle.rules.proofs.Releases.{released_clock}

-- the clock rises, and the line has the clock before, whoever runs
turn_clock : (rows : List Row) (l : Letter) (t : Turn) (s : State) → (after_turn rows l t s).clock ≡ s.clock + 1
turn_clock rows l nobody s = refl
turn_clock rows l (runs j holds js) s = refl

line_clock : (rows : List Row) (l : Letter) (t : Turn) (s : State) → (line_of rows l t s).clock ≡ s.clock
line_clock rows l nobody s = refl
line_clock rows l (runs j holds js) s = refl

module _ (rows : List Row) (s : State) where
  -- a step of a bench that is not stopped, before the last clock
  goes : (c : ℕ) → s.miss ≡ None → s.clock < 1000000000 → step rows c s ≡ step_by rows (letter_of c) s
  goes c going early =
      ap (λ (m : Option Job). step_running rows c m s) going
      ∙ ap (λ (b : Bool). cond b (refused LastClock s) (step_by rows (letter_of c) s)) (ne_eqb s.clock 1000000000 (λ e. omega arith))

  taken : (c : ℕ) (l : Letter) → letter_of c ≡ Some l → s.miss ≡ None → s.clock < 1000000000 → Taken rows c s
  taken c l is going early =
      let e : step rows c s ≡ done (tick rows l (released rows s)) = goes c going early ∙ ap (λ (o : Option Letter). step_by rows o s) is in
      let t = turn_of (released rows s).hand (released rows s).waiting in
      record {
        outcome = (tick rows l (released rows s)).outcome;
        answer = ap (λ (x : Stepped). x.answer) e;
        line = line_clock rows l t (released rows s) ∙ released_clock rows s;
        clock = ap (λ (x : Stepped). x.state.clock) e ∙ turn_clock rows l t (released rows s) ∙ ap (λ (n : ℕ). n + 1) (released_clock rows s);
      }

  no_letter : (c : ℕ) → NoLetter c → letter_of c ≡ None
  no_letter c not = λ i. cond (ne_eqb c 114 not.not_run i) (Some Run) (cond (ne_eqb c 104 not.not_hold i) (Some Hold) (cond (ne_eqb c 102 not.not_finish i) (Some Finish) None))

  pub steps : Steps rows s
  steps = record {
    run = taken 114 Run refl;
    hold = taken 104 Hold refl;
    finish = taken 102 Finish refl;
    stopped = λ c miss e. ap (λ (m : Option Job). step_running rows c m s) e;
    last = λ c going e.
        ap (λ (m : Option Job). step_running rows c m s) going
        ∙ ap (λ (b : Bool). cond b (refused LastClock s) (step_by rows (letter_of c) s)) (eq-eqb s.clock 1000000000 e);
    stranger = λ c not going early. goes c going early ∙ ap (λ (o : Option Letter). step_by rows o s) (no_letter c not);
  }

pub every_step : EveryRun Steps
every_step t calls = steps (rows_of t) (after_run (rows_of t) calls)
