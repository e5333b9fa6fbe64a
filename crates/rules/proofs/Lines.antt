-- The counts of a run are those of its tick lines.
use Rattle.std.proofs.Common.{◌≡◌, ℕ, ◌+◌, ◌-◌, Bool, true, false, cond, eqb, List, [], ◌∷◌, length, Some, None, count_by, Option, refl, ap, ◌∙◌, arith}
use Rattle.std.proofs.lemmas.List.Sums.{sum_by-cons}
use Rattle.sheet.specs.declared.row.Row.{Row}
use Rattle.sheet.specs.Tables.{rows_of}
use Rattle.verdict.specs.Test.{row_at}
use Rattle.ready.specs.declared.job.Job.{Job}
use Rattle.duty_log.specs.declared.line.Event.{Event}
use Rattle.duty_log.specs.declared.line.Event.TheVariants.{PutBack, Held, Done, Idle}
use Rattle.duty_log.specs.declared.line.Tick.{Tick}
use Rattle.rules.specs.declared.counts.Counts.{Counts}
use Rattle.ready.specs.declared.job.JobId.{JobId}
use Rattle.duty_log.specs.declared.refusal.StepRefusal.TheVariants.{LastClock}
use Rattle.rules.specs.declared.call.Call.{Call}
use Rattle.rules.specs.declared.call.Call.TheVariants.{Step, Counts as AskCounts, TaskCounts as AskTask, First}
use Rattle.rules.specs.State.{State, opened}
use Rattle.rules.specs.Release.{released}
use Rattle.rules.specs.declared.letter.Letter.{Letter}
use Rattle.rules.specs.Tick.{Turn, nobody, runs, turn_of, one_if, interrupts, previous_after, event_at, after_turn, line_of, checked}
use Rattle.rules.specs.Letters.{letter_of}
use Rattle.rules.specs.Step.{Stepped, last_clock, refused, step_by, step_running, step}
use Rattle.rules.specs.Run.{run_from}
use Rattle.rules.specs.Lines.{logged, lines_from, is_idle, unfinished, takes_over, takeovers, LinesTell}
use Rattle.rules.proofs.Releases.{releases_keep, released_clock}
use Rattle.rules.proofs.Ticks.{Tells, event_tells}

idle_lines : List Tick → ℕ
idle_lines ts = count_by (λ t. is_idle t.event) ts

idle_cons : (t : Tick) (ts : List Tick) → idle_lines (t ∷ ts) ≡ cond (is_idle t.event) 1 0 + idle_lines ts
unfolding idle_lines
idle_cons t ts = sum_by-cons (λ (x : Tick). cond (is_idle x.event) 1 0) t ts

-- s is followed by s' and the lines of ts, with the lines of more still to come
record Adds (ts more : List Tick) (s s' : State) : Type 0 where
  pub clock : s'.clock + length more ≡ s.clock + length ts
  pub idle : s'.counts.idle + idle_lines more ≡ s.counts.idle + idle_lines ts
  pub interruptions : s'.counts.interruptions + takeovers s'.previous more ≡ s.counts.interruptions + takeovers s.previous ts

nothing : (ts : List Tick) (s : State) → Adds ts ts s s
nothing ts s = record { clock = refl; idle = refl; interruptions = refl }

-- nobody takes over in an idle tick
idle_line : (p : Option JobId) (clock : ℕ) → takes_over p (record { clock = clock; task = 0; job = 0; left = 0; event = Idle }) ≡ false
idle_line None clock = refl
idle_line (Some p) clock = refl

-- the line of a job that runs, by what becomes of it
module _ (clock left : ℕ) (j : Job) (p : Option JobId) where
  abbrev line : Event → Tick
  line e = record { clock = clock; task = j.task; job = j.number; left = left; event = e }

  ran : (e : Event) (a b c : ℕ) → Tells e a b c
      → (is_idle e ≡ false) × ((takes_over p (line e) ≡ interrupts p j) × (unfinished (line e) ≡ previous_after e j))
  ran Done a b c t = (refl, (by p, refl))
    where
      by : (q : Option JobId) → takes_over q (line Done) ≡ interrupts q j
      by None = refl
      by (Some q) = refl
  ran PutBack a b c t = (refl, (by p, refl))
    where
      by : (q : Option JobId) → takes_over q (line PutBack) ≡ interrupts q j
      by None = refl
      by (Some q) = refl
  ran Held a b c t = (refl, (by p, refl))
    where
      by : (q : Option JobId) → takes_over q (line Held) ≡ interrupts q j
      by None = refl
      by (Some q) = refl
  ran Idle a b c t = absurd t

-- a tick adds its line
ticked : (rows : List Row) (l : Letter) (t : Turn) (s : State) (more : List Tick) → Adds (line_of rows l t s ∷ more) more s (checked (after_turn rows l t s))
ticked rows l nobody s more = record {
  clock = omega arith;
  idle = omega (arith, idle_cons (line_of rows l nobody s) more);
  interruptions = omega (arith, ap (λ (b : Bool). cond b 1 0 + takeovers None more) (idle_line s.previous s.clock));
}
ticked rows l (runs j holds js) s more =
    let most = (row_at j.task rows).hold in
    let x = ran s.clock (j.left - 1) j s.previous (event_at rows l j holds) (j.left - 1) holds most (event_tells l (j.left - 1) holds most) in
    record {
      clock = omega arith;
      idle = omega (arith, idle_cons (line_of rows l (runs j holds js) s) more, ap (λ (b : Bool). cond b 1 0 + idle_lines more) x.0);
      interruptions = omega (
        arith,
        ap (λ (b : Bool). cond b 1 0 + takeovers (unfinished (line_of rows l (runs j holds js) s)) more) x.1.0,
        ap (λ (o : Option JobId). one_if (interrupts s.previous j) + takeovers o more) x.1.1,
      );
    }

-- the releases change none of it
after_releases : (rows : List Row) (s s' : State) (ts more : List Tick) → Adds ts more (released rows s) s' → Adds ts more s s'
after_releases rows s s' ts more a =
    let counts : (released rows s).counts ≡ s.counts = releases_keep (λ t. t.counts) rows (λ i t. refl) (length rows) s in
    let previous : (released rows s).previous ≡ s.previous = releases_keep (λ t. t.previous) rows (λ i t. refl) (length rows) s in
    record {
      clock = a.clock ∙ ap (λ (n : ℕ). n + length ts) (released_clock rows s);
      idle = a.idle ∙ ap (λ (c : Counts). c.idle + idle_lines ts) counts;
      interruptions = a.interruptions ∙ (λ i. (counts i).interruptions + takeovers (previous i) ts);
    }

stepped : (rows : List Row) (c : ℕ) (s : State) (more : List Tick) → Adds (logged (step rows c s).answer more) more s (step rows c s).state
stepped rows c s more = unless_stopped s.miss
  where
    Adding : Stepped → Type 0
    Adding x = Adds (logged x.answer more) more s x.state

    by_letter : (o : Option Letter) → Adding (step_by rows o s)
    by_letter None = nothing more s
    by_letter (Some l) =
        after_releases rows s _ _ more (ticked rows l (turn_of (released rows s).hand (released rows s).waiting) (released rows s) more)

    unless_last : (b : Bool) → Adding (cond b (refused LastClock s) (step_by rows (letter_of c) s))
    unless_last true = nothing more s
    unless_last false = by_letter (letter_of c)

    unless_stopped : (m : Option Job) → Adding (step_running rows c m s)
    unless_stopped (Some j) = nothing more s
    unless_stopped None = unless_last (eqb s.clock last_clock)

-- one step after the other
chained : (ts us more : List Tick) (s s' s'' : State) → Adds ts us s s' → Adds us more s' s'' → Adds ts more s s''
chained ts us more s s' s'' a b = record {
  clock = b.clock ∙ a.clock;
  idle = b.idle ∙ a.idle;
  interruptions = b.interruptions ∙ a.interruptions;
}

run_adds : (rows : List Row) (calls : List Call) (s : State) → Adds (lines_from rows calls s) [] s (run_from rows calls s)
run_adds rows [] s = nothing [] s
run_adds rows (Step c ∷ cs) s =
    let rest = lines_from rows cs (step rows c s).state in
    chained (logged (step rows c s).answer rest) rest [] s (step rows c s).state (run_from rows cs (step rows c s).state) (stepped rows c s rest) (run_adds rows cs (step rows c s).state)
run_adds rows (AskCounts ∷ cs) s = run_adds rows cs s
run_adds rows (AskTask i ∷ cs) s = run_adds rows cs s
run_adds rows (First ∷ cs) s = run_adds rows cs s

pub lines_tell : LinesTell
unfolding idle_lines
lines_tell t calls =
    let a = run_adds (rows_of t) calls (opened (rows_of t)) in
    record { clock = omega (arith, a.clock); idle = omega (arith, a.idle); interruptions = omega (arith, a.interruptions) }
