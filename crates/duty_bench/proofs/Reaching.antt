-- What every run has is true of every bench.
use Rattle.std.proofs.Common.{◌≡◌, ℕ, ◌≤◌, true, List, [], ◌∷◌, ◌++◌, All, Option, sym, refl, ap, ◌∙◌, subst, arith}
use Rattle.std.proofs.lemmas.Bool.Decides.{nat_tests}
use Rattle.verdict.specs.declared.judged.Judged.{Judged}
use Rattle.ready.specs.declared.job.Job.{Job}
use Rattle.heap.specs.declared.releases.Releases.{Releases}
use Rattle.rules.specs.declared.hand.Held.{Held}
use Rattle.rules.specs.Accounts.{Proper, AllProper, NumbersFit}
use Rattle.rules.proofs.Laws.{every_fits, every_proper}
use Rattle.duty_bench.specs.declared.stage.Stage.{Stage}
use Rattle.duty_bench.specs.declared.stage.Stage.TheVariants.{Free, Holding as Keeping, Stopped}
use Rattle.duty_bench.specs.declared.parts.Parts.{Parts}
use Rattle.duty_bench.specs.Bounds.{running_stage, Midway}
use Rattle.sheet.specs.declared.row.Row.{Row}
use Rattle.rules.specs.declared.call.Call.TheVariants.{Step}
use Rattle.rules.specs.State.{State, opened, pending_of}
use Rattle.rules.specs.Step.{step, last_clock}
use Rattle.rules.specs.Run.{after_run, closing_of}
use Rattle.rules.specs.Promises.{EveryRun, Promised}
use Rattle.rules.proofs.Closings.{every_closing}
use Rattle.duty_bench.specs.Model.{BenchState, bench_of, hand_of}
use Rattle.duty_bench.specs.Reached.{Reached, Kept}
use Rattle.duty_bench.proofs.Calls.{run_push}

-- a law of every run is true of a bench
pub true_of_bench : (P : List Row → State → Type 0) → EveryRun P → (b : BenchState) → Reached b → P b.rows b.state
true_of_bench P law b r =
    subst (P b.rows) (sym r.state) (subst (λ (rows : List Row). P rows (after_run rows r.calls)) (sym r.rows) (law r.table r.calls))

-- so its numbers fit
pub fits_of : (b : BenchState) → Reached b → NumbersFit b.rows b.state
fits_of b r = true_of_bench NumbersFit every_fits b r

-- and its closing keeps the promise
pub promised_of : (b : BenchState) → Reached b → Promised b.rows (closing_of b.state)
promised_of b r = true_of_bench (λ rows s. Promised rows (closing_of s)) every_closing b r

-- a step more
pub reached_step : (b after : BenchState) (c : ℕ) → Reached b → after.rows ≡ b.rows → after.state ≡ (step b.rows c b.state).state → Reached after
reached_step b after c r rows state = record {
  table = r.table;
  calls = r.calls ++ Step c ∷ [];
  rows = rows ∙ r.rows;
  state = state ∙ ap (λ (s : State). (step b.rows c s).state) r.state
      ∙ sym (run_push b.rows r.calls (Step c) (opened b.rows))
      ∙ ap (λ (l : List Row). after_run l (r.calls ++ Step c ∷ [])) (sym rows);
}

running_by : (st : Stage) (js : List Job) (P : Job → Type 0) → ((j : Job) → P j → (1 ≤ j.task) × (j.task ≤ 32)) → All P (pending_of (hand_of st) js)
    → ((h : Option Held) (m : Job) → st ≡ Stopped h m → ⊥) → running_stage st ≡ true
running_by Free js P known a n = refl
running_by (Keeping held) js P known a n = let k = known held.job (a 0 held.job (omega arith)) in grind (arith, nat_tests)
running_by (Stopped h m) js P known a n = absurd (n h m refl)

-- a bench that is not stopped takes a step before its last clock
pub may_step : {Q : Type 0} (waiting : Q → List Job) (judged : Judged) (r : Releases) (p : Parts Q) → Kept waiting judged r p
    → ((h : Option Held) (m : Job) → p.stage ≡ Stopped h m → ⊥) → (p.clock ≡ last_clock → ⊥) → Midway 0 p
may_step waiting judged r p k running early =
    let b : BenchState = bench_of waiting judged p in
    let fits : NumbersFit b.rows b.state = true_of_bench NumbersFit every_fits b k.reached in
    let proper : AllProper b.rows b.state = true_of_bench AllProper every_proper b k.reached in
    record {
      running = running_by p.stage (waiting p.queue) (Proper b.rows b.state) (λ j a. (a.low, omega (arith, a.high, k.awaits.few))) proper running;
      early = let e : p.clock ≤ last_clock = fits.clock in omega arith;
      whole = k.settled.whole;
      tasks = λ i. let c = k.settled.counted i in (omega (arith, c.0), c.1, c.2);
      idle = fits.idle;
      begun = omega (arith, fits.begun);
      interruptions = omega (arith, fits.interruptions);
    }
