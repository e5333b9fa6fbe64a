-- What holds of a bench after every run.
use Rattle.std.proofs.Common.{◌≡◌, ℕ, ◌<◌, Bool, true, false, cond, eqb, List, [], ◌∷◌, length, Some, None, Option, sym, refl, ap, ◌∙◌, inl, inr, arith}
use Rattle.std.proofs.lemmas.Bool.{cases_order, eqb-false}
use Rattle.sheet.specs.declared.row.Row.{Row}
use Rattle.sheet.specs.declared.table.Table.{Table}
use Rattle.sheet.specs.Tables.{rows_of}
use Rattle.verdict.specs.Test.{row_at}
use Rattle.ready.specs.declared.job.Job.{Job}
use Rattle.rules.specs.declared.counts.TaskCounts.{TaskCounts}
use Rattle.duty_log.specs.declared.refusal.StepRefusal.TheVariants.{LastClock}
use Rattle.rules.specs.declared.call.Call.{Call}
use Rattle.rules.specs.declared.call.Call.TheVariants.{Step, Counts, TaskCounts as AskTask, First}
use Rattle.rules.specs.State.{State, no_counts, task_at, opened}
use Rattle.rules.specs.Release.{released}
use Rattle.rules.specs.declared.letter.Letter.{Letter}
use Rattle.rules.specs.Tick.{turn_of, after_turn}
use Rattle.rules.specs.Letters.{letter_of}
use Rattle.rules.specs.Step.{last_clock, refused, step_by, step_running, step}
use Rattle.rules.specs.Run.{called, run_from, after_run}
use Rattle.rules.specs.Deadlines.{releases_before}
use Rattle.rules.proofs.Tasks.{opened_at, opened_length}
use Rattle.rules.proofs.Times.{none_before_zero}
use Rattle.rules.proofs.Kept.{Ruled, ruled, seen_above, Sound}
use Rattle.rules.proofs.Releases.{Between, kept_releases, released_clock}
use Rattle.rules.proofs.Ticks.{kept_turn, sound_checked}

pub sound_opened : (rows : List Row) → Ruled rows → Sound rows (opened rows)
sound_opened rows ok =
    record {
      kept = record {
        size = opened_length (length rows);
        clock = omega arith;
        times = λ i low high.
            zero_of i (λ k. k.released)
            ∙ sym (ap (releases_before (row_at i rows)) (seen_above 0 i 0 low) ∙ none_before_zero (row_at i rows) (ok.ranges i).some_period);
        four = λ i low high. let a = zero_of i (λ k. k.released) in omega arith;
        given = λ i low high. let a = zero_of i (λ k. k.given) in omega arith;
        lost = λ i low high. let a = zero_of i (λ k. k.released) in let b = zero_of i (λ k. k.done) in omega arith;
        order = λ i m low high undone out. let a = zero_of i (λ k. k.released) in absurd (omega arith);
        proper = tt;
        sorted = tt;
        next = tt;
        holds = tt;
        idle = omega arith;
        begun = omega arith;
        interruptions = omega arith;
      };
      unmissed = λ e. tt;
    }
  where
    zero_of : (i : ℕ) (f : TaskCounts → ℕ) → f (task_at i (opened rows).tasks) ≡ f no_counts
    zero_of i f = ap f (opened_at (length rows) i)

-- the state that the releases of a step leave
pub sound_released : (rows : List Row) → Ruled rows → (s : State) → Sound rows s → s.miss ≡ None → Between rows (length rows) (released rows s)
sound_released rows ok s sound going = kept_releases rows ok s sound.kept (sound.unmissed going) (length rows) (omega arith)

pub sound_step : (rows : List Row) → Ruled rows → (s : State) → Sound rows s → (c : ℕ) → Sound rows (step rows c s).state
sound_step rows ok s sound c = unless_stopped s.miss refl
  where
    by_letter : s.miss ≡ None → eqb s.clock last_clock ≡ false → (o : Option Letter) → Sound rows (step_by rows o s).state
    by_letter going more None = sound
    by_letter going more (Some l) =
        let below : (released rows s).clock < last_clock
        = elim (cases_order s.clock last_clock) [
          | inl e ↦ absurd (eqb-false s.clock last_clock more e)
          | inr (inl lt) ↦ omega (arith, released_clock rows s)
          | inr (inr gt) ↦ absurd (omega (arith, sound.kept.clock))
        ] in
        sound_checked rows (after_turn rows l (turn_of (released rows s).hand (released rows s).waiting) (released rows s))
        (kept_turn rows ok (released rows s) (sound_released rows ok s sound going).kept below l)

    unless_last : s.miss ≡ None → (b : Bool) → eqb s.clock last_clock ≡ b
        → Sound rows (cond b (refused LastClock s) (step_by rows (letter_of c) s)).state
    unless_last going true e = sound
    unless_last going false e = by_letter going e (letter_of c)

    unless_stopped : (o : Option Job) → s.miss ≡ o → Sound rows (step_running rows c o s).state
    unless_stopped (Some j) e = sound
    unless_stopped None e = unless_last e (eqb s.clock last_clock) refl

pub sound_called : (rows : List Row) → Ruled rows → (s : State) → Sound rows s → (c : Call) → Sound rows (called rows c s)
sound_called rows ok s sound (Step c) = sound_step rows ok s sound c
sound_called rows ok s sound Counts = sound
sound_called rows ok s sound (AskTask i) = sound
sound_called rows ok s sound First = sound

sound_run_from : (rows : List Row) → Ruled rows → (calls : List Call) (s : State) → Sound rows s → Sound rows (run_from rows calls s)
sound_run_from rows ok [] s sound = sound
sound_run_from rows ok (c ∷ cs) s sound = sound_run_from rows ok cs (called rows c s) (sound_called rows ok s sound c)

-- what is kept holds after every run on every table
pub sound_run : (t : Table) (calls : List Call) → Sound (rows_of t) (after_run (rows_of t) calls)
sound_run t calls = sound_run_from (rows_of t) (ruled t) calls (opened (rows_of t)) (sound_opened (rows_of t) (ruled t))
