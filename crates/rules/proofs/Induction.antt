-- What the opening has, and each release and each tick keeps, holds after every run.
use Rattle.std.proofs.Common.{◌≡◌, ℕ, zero, suc, ◌<◌, ◌≤◌, Bool, true, false, cond, eqb, List, [], ◌∷◌, length, Some, None, Option, refl, arith}
use Rattle.std.specs.List.{AllByRecursion}
use Rattle.sheet.specs.declared.row.Row.{Row}
use Rattle.ready.specs.declared.job.Job.{Job}
use Rattle.duty_log.specs.declared.refusal.StepRefusal.TheVariants.{LastClock}
use Rattle.rules.specs.declared.call.Call.{Call}
use Rattle.rules.specs.declared.call.Call.TheVariants.{Step, Counts, TaskCounts as AskTask, First}
use Rattle.rules.specs.State.{State, opened}
use Rattle.rules.specs.Release.{due, release, releases, released}
use Rattle.rules.specs.declared.letter.Letter.{Letter}
use Rattle.rules.specs.Tick.{Turn, nobody, runs, turn_of, event_at, worked_state, idle_state, after_turn, checked}
use Rattle.rules.specs.Letters.{letter_of}
use Rattle.rules.specs.Step.{last_clock, refused, step_by, step_running, step}
use Rattle.rules.specs.Run.{called, run_from, after_run}
use Rattle.rules.proofs.Kept.{Ruled, Kept, Unmissed, Sound}
use Rattle.rules.proofs.Releases.{Between, kept_releases}
use Rattle.rules.proofs.Runs.{sound_opened, sound_released, sound_called}

-- P holds at the opening and is kept by what a step does; A is what is asked of each call
pub record Keeps (rows : List Row) (A : Call → Type 0) (P : State → Type 0) : Type 0 where
  pub at_opening : P (opened rows)
  pub by_release : (n : ℕ) (s : State) → n < length rows → Kept rows n s → Unmissed s → due rows (suc n) s ≡ true → P s → P (release rows (suc n) s)
  pub by_idle : (s : State) → Kept rows (length rows) s → turn_of s.hand s.waiting ≡ nobody → P s → P (checked (idle_state s))
  pub by_work : (s : State) → Kept rows (length rows) s → (c : ℕ) (l : Letter) → A (Step c) → letter_of c ≡ Some l → (j : Job) (holds : ℕ) (js : List Job)
      → turn_of s.hand s.waiting ≡ runs j holds js → P s → P (checked (worked_state rows (event_at rows l j holds) j holds js s))

module _ (rows : List Row) (ok : Ruled rows) (A : Call → Type 0) (P : State → Type 0) (keeps : Keeps rows A P) where
  after_releases : (s : State) → Kept rows 0 s → Unmissed s → P s → (n : ℕ) → n ≤ length rows → P (releases rows n s)
  after_releases s kept unmissed p zero h = p
  after_releases s kept unmissed p (suc n) h =
      go (due rows (suc n) (releases rows n s)) refl (kept_releases rows ok s kept unmissed n (omega arith)) (after_releases s kept unmissed p n (omega arith))
    where
      go : (b : Bool) → due rows (suc n) (releases rows n s) ≡ b → Between rows n (releases rows n s) → P (releases rows n s)
          → P (cond b (release rows (suc n) (releases rows n s)) (releases rows n s))
      go true e x q = keeps.by_release n (releases rows n s) h x.kept x.unmissed e q
      go false e x q = q

  after_tick : (s : State) → Kept rows (length rows) s → P s → (c : ℕ) (l : Letter) → A (Step c) → letter_of c ≡ Some l
      → P (checked (after_turn rows l (turn_of s.hand s.waiting) s))
  after_tick s kept p c l a x = go (turn_of s.hand s.waiting) refl
    where
      go : (t : Turn) → turn_of s.hand s.waiting ≡ t → P (checked (after_turn rows l t s))
      go nobody e = keeps.by_idle s kept e p
      go (runs j holds js) e = keeps.by_work s kept c l a x j holds js e p

  after_step : (s : State) → Sound rows s → P s → (c : ℕ) → A (Step c) → P (step rows c s).state
  after_step s sound p c a = unless_stopped s.miss refl
    where
      by_letter : s.miss ≡ None → (o : Option Letter) → letter_of c ≡ o → P (step_by rows o s).state
      by_letter going None x = p
      by_letter going (Some l) x =
          after_tick (released rows s) (sound_released rows ok s sound going).kept
          (after_releases s sound.kept (sound.unmissed going) p (length rows) (omega arith)) c l a x

      unless_last : s.miss ≡ None → (b : Bool) → P (cond b (refused LastClock s) (step_by rows (letter_of c) s)).state
      unless_last going true = p
      unless_last going false = by_letter going (letter_of c) refl

      unless_stopped : (o : Option Job) → s.miss ≡ o → P (step_running rows c o s).state
      unless_stopped (Some j) e = p
      unless_stopped None e = unless_last e (eqb s.clock last_clock)

  after_call : (s : State) → Sound rows s → P s → (c : Call) → A c → P (called rows c s)
  after_call s sound p (Step c) a = after_step s sound p c a
  after_call s sound p Counts a = p
  after_call s sound p (AskTask i) a = p
  after_call s sound p First a = p

  after_calls : (calls : List Call) (s : State) → Sound rows s → P s → AllByRecursion A calls → P (run_from rows calls s)
  after_calls [] s sound p a = p
  after_calls (c ∷ cs) s sound p a = after_calls cs (called rows c s) (sound_called rows ok s sound c) (after_call s sound p c a.0) a.1

  pub kept_by_run : (calls : List Call) → AllByRecursion A calls → P (after_run rows calls)
  kept_by_run calls a = after_calls calls (opened rows) (sound_opened rows ok) keeps.at_opening a

-- where nothing is asked of the calls
abbrev pub Any : Call → Type 0
Any c = Unit {0}

pub all_any : (calls : List Call) → AllByRecursion Any calls
all_any [] = tt
all_any (c ∷ cs) = (tt, all_any cs)

pub kept_by_every_run : (rows : List Row) → Ruled rows → (P : State → Type 0) → Keeps rows Any P → (calls : List Call) → P (after_run rows calls)
kept_by_every_run rows ok P keeps calls = kept_by_run rows ok Any P keeps calls (all_any calls)
