-- Interruptions are fewer than jobs begun: whoever takes over from a job that is not done has all its units left.
use Rattle.std.proofs.Common.{◌≡◌, ℕ, zero, suc, ◌+◌, ◌-◌, ◌<◌, ◌≤◌, Bool, true, false, cond, eqb, ◌⊎◌, List, [], ◌∷◌, length, Some, None, Ok, Option, sym, refl, ap, ◌∙◌, subst, inl, inr, ⊎_elim, arith}
use Rattle.std.specs.List.{AllByRecursion}
use Rattle.std.proofs.ByRecursion.{All-weaker}
use Rattle.std.proofs.lemmas.Bool.{cases_lt, eq-eqb, and_from, not_from_true, both_ways}
use Rattle.sheet.specs.declared.row.Row.{Row}
use Rattle.sheet.specs.Rows.{units}
use Rattle.sheet.specs.Tables.{rows_of}
use Rattle.verdict.specs.Test.{row_at}
use Rattle.ready.specs.declared.job.Job.{Job}
use Rattle.ready.specs.Order.{before}
use Rattle.ready.specs.Sorted.{placed, Sorted}
use Rattle.ready.specs.Waiting.{put_answer, put_list}
use Rattle.ready.proofs.Urgency.{before_one_way, not_before_chain, before_self, tie_task, tie_number}
use Rattle.ready.proofs.Puts.{put_placed, put_either, all_put}
use Rattle.duty_log.specs.declared.line.Event.{Event}
use Rattle.duty_log.specs.declared.line.Event.TheVariants.{PutBack, Held, Done, Idle}
use Rattle.rules.specs.declared.counts.Counts.{Counts}
use Rattle.rules.specs.declared.hand.Held.{Held as HeldJob}
use Rattle.ready.specs.declared.job.JobId.{JobId}
use Rattle.rules.specs.State.{State, pending}
use Rattle.rules.specs.Release.{next_job}
use Rattle.rules.specs.declared.letter.Letter.{Letter}
use Rattle.rules.specs.Tick.{runs, turn_of, one_if, begins, interrupts, worked, event_at, hand_after, waiting_after, previous_after, worked_state, checked}
use Rattle.rules.specs.Promises.{Few, FewInterruptions}
use Rattle.rules.specs.Accounts.{Proper}
use Rattle.rules.proofs.Kept.{Ruled, ruled, Kept}
use Rattle.rules.proofs.Releases.{all_pending_put}
use Rattle.rules.proofs.Ticks.{turn_pending, Tells, event_tells, all_after_run, put_back}
use Rattle.rules.proofs.Induction.{Any, Keeps, kept_by_every_run}

-- the job has had a tick
abbrev Begun : List Row → Job → Type 0
Begun rows j = j.left < units (row_at j.task rows)

-- if the job has begun, it is no more urgent than p
abbrev Yields : List Row → (p j : Job) → Type 0
Yields rows p j = Begun rows j → before j p ≡ false

-- the first job of the list is at least as urgent as p
abbrev Headed : Job → List Job → Type 0
Headed p [] = ⊥
Headed p (j ∷ js) = before p j ≡ false

-- the previous job where the hand is empty: the first waiting job is at least as urgent, and those that have begun are at most
record Waits (rows : List Row) (p : JobId) (js : List Job) : Type 0 where
  pub job : Job
  pub task : p.task ≡ job.task
  pub number : p.number ≡ job.number
  pub headed : Headed job js
  pub yield : AllByRecursion (Yields rows job) js

-- the previous job, if there is one, is in the hand or waits; a job in the hand is the previous one
abbrev Before : List Row → Option JobId → Option HeldJob → List Job → Type 0
Before rows None None js = Unit {0}
Before rows None (Some held) js = ⊥
Before rows (Some p) None js = Waits rows p js
Before rows (Some p) (Some held) js = (p.task ≡ held.job.task) × (p.number ≡ held.job.number) × AllByRecursion (Yields rows held.job) js

-- where there is a previous job, a job has begun
abbrev Counted : Option JobId → ℕ → Type 0
Counted None n = Unit {0}
Counted (Some p) n = 0 < n

-- what every call keeps
record Led (rows : List Row) (s : State) : Type 0 where
  pub few : Few s.counts
  pub previous : Before rows s.previous s.hand s.waiting
  pub counted : Counted s.previous s.counts.begun
  pub begun : AllByRecursion (λ j. Begun rows j → 0 < s.counts.begun) (pending s)

-- The waiting list through a put.

headed_placed : (p j : Job) (js : List Job) → Headed p js → Headed p (placed before j js)
headed_placed p j [] h = absurd h
headed_placed p j (k ∷ ks) h = go (before k j) refl
  where
    go : (b : Bool) → before k j ≡ b → Headed p (cond b (k ∷ placed before j ks) (j ∷ k ∷ ks))
    go true e = h
    go false e = not_before_chain p k j h e

headed_itself : (j : Job) (js : List Job) → Headed j (placed before j js)
headed_itself j [] = before_self j
headed_itself j (k ∷ ks) = go (before k j) refl
  where
    go : (b : Bool) → before k j ≡ b → Headed j (cond b (k ∷ placed before j ks) (j ∷ k ∷ ks))
    go true e = before_one_way k j e
    go false e = before_self j

-- a job that has not begun may be put
before_put : (rows : List Row) (p : Option JobId) (h : Option HeldJob) (j : Job) (js : List Job) → (Begun rows j → ⊥)
    → Before rows p h js → Before rows p h (put_list j js)
before_put rows None None j js new b = tt
before_put rows None (Some held) j js new b = b
before_put rows (Some p) None j js new b = record {
  job = b.job;
  task = b.task;
  number = b.number;
  headed = put_either j js (Headed b.job) (headed_placed b.job j js b.headed) b.headed;
  yield = all_put j js (Yields rows b.job) (λ x. absurd (new x)) b.yield;
}
before_put rows (Some p) (Some held) j js new b = (b.0, b.1, all_put j js (Yields rows held.job) (λ x. absurd (new x)) b.2)

-- A turn.

-- the waiting jobs that have begun are no more urgent than the one that runs
turn_yields : (rows : List Row) (p : Option JobId) (h : Option HeldJob) (w : List Job) → Before rows p h w → Sorted before w
    → (j : Job) (holds : ℕ) (js : List Job) → turn_of h w ≡ runs j holds js → AllByRecursion (Yields rows j) js
turn_yields rows None (Some held) w b sorted j holds js e = absurd b
turn_yields rows (Some p) (Some held) w b sorted j holds js e =
    let x : held.job ≡ j = cc in
    let y : w ≡ js = cc in
    subst (λ (i : Job). AllByRecursion (Yields rows i) js) x (subst (AllByRecursion (Yields rows held.job)) y b.2)
turn_yields rows p None [] b sorted j holds js e = let z : ◌≡◌ {A = ℕ} 0 1 = cc in absurd (omega arith)
turn_yields rows p None (k ∷ ks) b sorted j holds js e =
    let x : k ≡ j = cc in
    let y : ks ≡ js = cc in
    subst (λ (i : Job). AllByRecursion (Yields rows i) js) x
    (subst (AllByRecursion (Yields rows k)) y (All-weaker (λ i. before i k ≡ false) (Yields rows k) (λ i u begun. u) ks sorted.0))

-- the previous job is no other than itself
same_job : (p : JobId) (j : Job) → p.task ≡ j.task → p.number ≡ j.number → interrupts (Some p) j ≡ true → ⊥
same_job p j e f o =
    both_ways (interrupts (Some p) j)
    (not_from_true _ (and_from (eqb p.task j.task) (eqb p.number j.number) (eq-eqb _ _ e) (eq-eqb _ _ f))) o

-- whoever takes over from another job has not begun
turn_new : (rows : List Row) (p : Option JobId) (h : Option HeldJob) (w : List Job) → Before rows p h w
    → (j : Job) (holds : ℕ) (js : List Job) → turn_of h w ≡ runs j holds js → interrupts p j ≡ true → Begun rows j → ⊥
turn_new rows None h w b j holds js e o begun = both_ways false refl o
turn_new rows (Some p) (Some held) w b j holds js e o begun =
    let x : held.job ≡ j = cc in
    same_job p j (b.0 ∙ ap (λ (i : Job). i.task) x) (b.1 ∙ ap (λ (i : Job). i.number) x) o
turn_new rows (Some p) None [] b j holds js e o begun = let z : ◌≡◌ {A = ℕ} 0 1 = cc in absurd (omega arith)
turn_new rows (Some p) None (k ∷ ks) b j holds js e o begun =
    let x : k ≡ j = cc in
    let u : before k b.job ≡ false = b.yield.0 (subst (Begun rows) (sym x) begun) in
    let task = tie_task b.job k b.headed u in
    let number = tie_number b.job k b.headed u in
    same_job p j (b.task ∙ task ∙ ap (λ (i : Job). i.task) x) (b.number ∙ number ∙ ap (λ (i : Job). i.number) x) o

-- where the previous job is another one, a job has begun
counted_some : (p : Option JobId) (n : ℕ) (j : Job) → Counted p n → interrupts p j ≡ true → 0 < n
counted_some None n j c o = absurd (both_ways false refl o)
counted_some (Some p) n j c o = c

-- the previous job after the turn
before_after : (rows : List Row) (e : Event) (j : Job) (left holds most : ℕ) (js : List Job) → Tells e left holds most
    → put_answer (worked j) js ≡ Ok tt → AllByRecursion (Yields rows j) js
    → Before rows (previous_after e j) (hand_after e (worked j) holds) (waiting_after e (worked j) js)
before_after rows Done j left holds most js t fits y = tt
before_after rows PutBack j left holds most js t fits y = record {
  job = worked j;
  task = refl;
  number = refl;
  headed = subst (Headed (worked j)) (sym (put_placed (worked j) js fits)) (headed_itself (worked j) js);
  yield = all_put (worked j) js (Yields rows (worked j)) (λ begun. before_self (worked j)) y;
}
before_after rows Held j left holds most js t fits y = (refl, refl, y)
before_after rows Idle j left holds most js t fits y = absurd t

counted_after : (e : Event) (j : Job) (n : ℕ) → 0 < n → Counted (previous_after e j) n
counted_after Done j n some = tt
counted_after PutBack j n some = some
counted_after Held j n some = some
counted_after Idle j n some = tt

-- The counts.

few_le : (n m : ℕ) → (0 < n → m < n) → (n ≡ 0 → m ≡ 0) → m ≤ n
few_le zero m f g = omega (arith, g refl)
few_le (suc n) m f g = omega (arith, f (omega arith))

-- an interruption that comes with a job begun, but not the first, leaves few
few_after : (c : Counts) (b i : Bool) → Few c → (i ≡ true → (b ≡ true) × (0 < c.begun))
    → Few (record { idle = c.idle; begun = c.begun + one_if b; interruptions = c.interruptions + one_if i })
few_after c true true f g = (λ h. omega (arith, f.0 (g refl).1), λ e. absurd (omega arith))
few_after c false true f g = absurd (both_ways false refl (g refl).0)
few_after c true false f g = (λ h. omega (arith, few_le c.begun c.interruptions f.0 f.1), λ e. absurd (omega arith))
few_after c false false f g = (λ h. omega (arith, f.0 (omega arith)), λ e. omega (arith, f.1 (omega arith)))

-- a job begins or has begun
begins_or_begun : (r : Row) (j : Job) → j.left ≤ units r → (begins r j ≡ true) ⊎ (j.left < units r)
begins_or_begun r j most = ⊎_elim (λ lt. inr lt) (λ ge. inl (eq-eqb j.left (units r) (omega arith))) (cases_lt j.left (units r))

-- Every call.

module _ (rows : List Row) (ok : Ruled rows) where
  -- a tick in which job j runs
  module _ (s : State) (kept : Kept rows (length rows) s) (l : Letter) (j : Job) (holds : ℕ) (js : List Job)
      (turn : turn_of s.hand s.waiting ≡ runs j holds js) (led : Led rows s) where
    abbrev begun_then : ℕ
    begun_then = s.counts.begun + one_if (begins (row_at j.task rows) j)

    split : (P : Job → Type 0) → AllByRecursion P (pending s) → AllByRecursion P (j ∷ js)
    split P a = subst (AllByRecursion P) (turn_pending s.hand s.waiting j holds js turn) a

    begun_all : AllByRecursion (λ k. Begun rows k → 0 < s.counts.begun) (j ∷ js)
    begun_all = split (λ k. Begun rows k → 0 < s.counts.begun) led.begun

    known : (begins (row_at j.task rows) j ≡ true) ⊎ Begun rows j
    known = begins_or_begun (row_at j.task rows) j (split (Proper rows s) kept.proper).0.most

    some : 0 < begun_then
    some =
        ⊎_elim (λ e. let z : begun_then ≡ s.counts.begun + 1 = ap (λ (b : Bool). s.counts.begun + one_if b) e in omega arith)
        (λ lt. omega (arith, begun_all.0 lt)) known

    -- the tick that counts an interruption counts a job begun, and not the first
    new : interrupts s.previous j ≡ true → (begins (row_at j.task rows) j ≡ true) × (0 < s.counts.begun)
    new o = (
      ⊎_elim (λ e. e) (λ lt. absurd (turn_new rows s.previous s.hand s.waiting led.previous j holds js turn o lt)) known,
      counted_some s.previous s.counts.begun j led.counted o,
    )

    abbrev event : Event
    event = event_at rows l j holds

    tells : Tells event (j.left - 1) holds (row_at j.task rows).hold
    tells = event_tells l (j.left - 1) holds (row_at j.task rows).hold

    led_worked : Led rows (checked (worked_state rows (event_at rows l j holds) j holds js s))
    led_worked = record {
      few = few_after s.counts (begins (row_at j.task rows) j) (interrupts s.previous j) led.few new;
      previous = before_after rows event j (j.left - 1) holds (row_at j.task rows).hold js tells
          (put_back rows ok s kept j holds js turn)
          (turn_yields rows s.previous s.hand s.waiting led.previous kept.sorted j holds js turn);
      counted = counted_after event j begun_then some;
      begun = all_after_run (λ k. Begun rows k → 0 < begun_then) event (worked j) (j.left - 1) holds (row_at j.task rows).hold js tells
          (λ left more begun. some)
          (All-weaker (λ k. Begun rows k → 0 < s.counts.begun) (λ k. Begun rows k → 0 < begun_then) (λ k f begun. some) js begun_all.1);
    }

  led_kept : Keeps rows Any (Led rows)
  led_kept = record {
    at_opening = record { few = (λ h. absurd (omega arith), λ e. refl); previous = tt; counted = tt; begun = tt };
    by_release = λ n s in' kept unmissed now led. record {
      few = led.few;
      previous = before_put rows s.previous s.hand (next_job rows (suc n) s) s.waiting (λ begun. omega arith) led.previous;
      counted = led.counted;
      begun = all_pending_put (λ j. Begun rows j → 0 < s.counts.begun) s.hand (next_job rows (suc n) s) s.waiting
          (λ begun. absurd (omega arith)) led.begun;
    };
    by_idle = λ s kept turn led. record { few = led.few; previous = tt; counted = tt; begun = tt };
    by_work = λ s kept c l a x j holds js turn led. led_worked s kept l j holds js turn led;
  }

pub few_interruptions : FewInterruptions
few_interruptions t calls = (kept_by_every_run (rows_of t) (ruled t) (Led (rows_of t)) (led_kept (rows_of t) (ruled t)) calls).few
