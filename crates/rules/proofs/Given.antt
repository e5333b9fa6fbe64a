-- A task's jobs get the units that they ask, unless they are ended early.
use Rattle.std.proofs.Common.{◌≡◌, ℕ, suc, ◌+◌, ◌-◌, ◌*◌, ◌<◌, ◌≤◌, Bool, true, false, cond, eqb, ltb, List, ◌∷◌, length, Some, None, Option, Ok, sym, refl, ap, ◌∙◌, subst, inl, inr, arith}
use Rattle.std.specs.List.{AllByRecursion}
use Rattle.std.proofs.lemmas.List.Elements.{recursion_from_All}
use Rattle.std.proofs.lemmas.List.Sums.{sum_by-cons}
use Rattle.std.proofs.lemmas.Bool.{eqb-true, eq-eqb, ne_eqb, both_ways}
use Rattle.sheet.specs.declared.row.Row.{Row}
use Rattle.sheet.specs.Rows.{units}
use Rattle.sheet.specs.Tables.{rows_of}
use Rattle.verdict.specs.Test.{row_at}
use Rattle.ready.specs.declared.job.Job.{Job}
use Rattle.ready.specs.Waiting.{of_task, put_answer, put_list}
use Rattle.ready.proofs.Puts.{sum_by_put}
use Rattle.duty_log.specs.declared.line.Event.{Event}
use Rattle.duty_log.specs.declared.line.Event.TheVariants.{PutBack, Held, Done, Idle}
use Rattle.rules.specs.declared.counts.TaskCounts.{TaskCounts}
use Rattle.rules.specs.declared.hand.Held.{Held as HeldJob}
use Rattle.rules.specs.State.{State, task_at, pending_of, pending, opened}
use Rattle.rules.specs.Release.{due, next_job, release}
use Rattle.rules.specs.declared.letter.Letter.{Letter}
use Rattle.rules.specs.declared.letter.Letter.TheVariants.{Run, Hold, Finish}
use Rattle.rules.specs.Tick.{runs, nobody, turn_of, worked, event_of, event_at, one_done, worked_state, idle_state, checked}
use Rattle.rules.specs.Letters.{letter_of}
use Rattle.rules.specs.Promises.{EveryRun}
use Rattle.rules.specs.Accounts.{Proper, left_of, GivenAtMost, Unended, GivenExactly}
use Rattle.rules.proofs.Tasks.{Raised, raised_release, raised_tick, opened_at}
use Rattle.rules.proofs.Kept.{Ruled, ruled, Kept, Unmissed}
use Rattle.rules.proofs.Releases.{sum_pending_put, accepted}
use Rattle.rules.proofs.Ticks.{turn_pending, nobody_pending, Tells, event_tells, cond_same, pending_after, put_back}
use Rattle.rules.proofs.Induction.{Any, Keeps, kept_by_run, kept_by_every_run}

-- the units that a job has left, if it is of task i
abbrev its_left : ℕ → Job → ℕ
its_left i j = cond (of_task i j) j.left 0

left_cons : (i : ℕ) (j : Job) (js : List Job) → left_of i (j ∷ js) ≡ its_left i j + left_of i js
left_cons i j js = sum_by-cons (its_left i) j js

left_put : (i : ℕ) (j : Job) (js : List Job) → put_answer j js ≡ Ok tt → left_of i (put_list j js) ≡ its_left i j + left_of i js
left_put i j js fits = sum_by_put j js (its_left i) fits

-- the units left of the pending jobs after a put
left_pending_put : (i : ℕ) (h : Option HeldJob) (j : Job) (js : List Job) → put_answer j js ≡ Ok tt
    → left_of i (pending_of h (put_list j js)) ≡ its_left i j + left_of i (pending_of h js)
left_pending_put i h j js fits = sum_pending_put (its_left i) h j js fits

-- the units that a job loses where it is ended with so many left
abbrev lost_by : Event → ℕ → ℕ
lost_by Done left = left
lost_by PutBack left = 0
lost_by Held left = 0
lost_by Idle left = 0

its_left_worked : (i : ℕ) (j : Job) → 1 ≤ j.left → its_left i j ≡ its_left i (worked j) + cond (of_task i j) 1 0
its_left_worked i j some = go (of_task i j)
  where
    go : (b : Bool) → cond b j.left 0 ≡ cond b (j.left - 1) 0 + cond b 1 0
    go true = omega arith
    go false = refl

its_left_done : (i : ℕ) (j : Job) → 1 ≤ j.left → its_left i j ≡ cond (of_task i j) (1 + (j.left - 1)) 0
its_left_done i j some = ap (λ (n : ℕ). cond (of_task i j) n 0) (omega arith)

-- a tick takes one unit of the job that runs, and those that it loses
left_after_run : (i : ℕ) (e : Event) (j : Job) (left holds most : ℕ) (js : List Job) → Tells e left holds most → 1 ≤ j.left
    → put_answer (worked j) js ≡ Ok tt
    → left_of i (pending_after e (worked j) holds js) + cond (of_task i j) (1 + lost_by e (j.left - 1)) 0 ≡ left_of i (j ∷ js)
left_after_run i Done j left holds most js t some fits = omega (arith, left_cons i j js, its_left_done i j some)
left_after_run i PutBack j left holds most js t some fits =
    omega (arith, left_cons i j js, its_left_worked i j some, left_put i (worked j) js fits)
left_after_run i Held j left holds most js t some fits =
    omega (arith, left_cons i j js, its_left_worked i j some, left_cons i (worked j) js)
left_after_run i Idle j left holds most js t some fits = absurd t

-- what task i was given and has left, and what its released jobs ask
abbrev had : ℕ → State → ℕ
had i s = (task_at i s.tasks).given + left_of i (pending s)

abbrev asked : List Row → ℕ → State → ℕ
asked rows i s = (task_at i s.tasks).released * units (row_at i rows)

had_opened : (rows : List Row) (i : ℕ) → (had i (opened rows) ≡ 0) × (asked rows i (opened rows) ≡ 0)
had_opened rows i =
    let e = opened_at (length rows) i in
    (ap (λ (k : TaskCounts). k.given + 0) e, ap (λ (k : TaskCounts). k.released * units (row_at i rows)) e ∙ omega arith)

-- a release adds as much to what the task has left as to what it asks
module _ (rows : List Row) (ok : Ruled rows) (n : ℕ) (s : State) (in' : n < length rows) (kept : Kept rows n s) (unmissed : Unmissed s)
    (now : due rows (suc n) s ≡ true) (i : ℕ) (low : 1 ≤ i) where
  abbrev released_then : State
  released_then = release rows (suc n) s

  left_fresh : (b : Bool) → of_task i (next_job rows (suc n) s) ≡ b
      → left_of i (pending released_then) ≡ cond b (units (row_at (suc n) rows)) 0 + left_of i (pending s)
  left_fresh b e =
      left_pending_put i s.hand (next_job rows (suc n) s) s.waiting (accepted rows ok n in' s kept unmissed now)
      ∙ ap (λ (y : Bool). cond y (units (row_at (suc n) rows)) 0 + left_of i (pending s)) e

  had_release : had i released_then + asked rows i s ≡ had i s + asked rows i released_then
  had_release = go (raised_release (suc n) s.tasks i (omega arith) (omega (arith, kept.size)) low)
    where
      go : Raised i (suc n) 1 0 0 (task_at i s.tasks) (task_at i released_then.tasks)
          → had i released_then + asked rows i s ≡ had i s + asked rows i released_then
      go (inl x) =
          let c = left_fresh true (eq-eqb (suc n) i (sym x.0)) in
          let u : units (row_at (suc n) rows) ≡ units (row_at i rows) = ap (λ (k : ℕ). units (row_at k rows)) (sym x.0) in
          let a : asked rows i released_then ≡ ((task_at i s.tasks).released + 1) * units (row_at i rows)
          = ap (λ (k : ℕ). k * units (row_at i rows)) x.1 in
          omega (arith, x.3)
      go (inr x) =
          let c = left_fresh false (ne_eqb (suc n) i (λ e. x.0 (sym e))) in
          let a : asked rows i released_then ≡ asked rows i s = ap (λ (k : ℕ). k * units (row_at i rows)) x.1 in
          omega (arith, x.3)

-- a tick takes from what the task has only the units that its job loses
module _ (rows : List Row) (ok : Ruled rows) (s : State) (kept : Kept rows (length rows) s) (l : Letter) (j : Job) (holds : ℕ) (js : List Job)
    (turn : turn_of s.hand s.waiting ≡ runs j holds js) (i : ℕ) (low : 1 ≤ i) where
  abbrev event : Event
  event = event_at rows l j holds

  abbrev after : State
  after = checked (worked_state rows (event_at rows l j holds) j holds js s)

  split : pending s ≡ j ∷ js
  split = turn_pending s.hand s.waiting j holds js turn

  its : Proper rows s j
  its = (subst (AllByRecursion (Proper rows s)) split kept.proper).0

  left_then : (b : Bool) → of_task i j ≡ b → left_of i (pending after) + cond b (1 + lost_by event (j.left - 1)) 0 ≡ left_of i (pending s)
  left_then b e =
      subst (λ (y : Bool). left_of i (pending after) + cond y (1 + lost_by event (j.left - 1)) 0 ≡ left_of i (pending s)) e
      (left_after_run i event j (j.left - 1) holds (row_at j.task rows).hold js
      (event_tells l (j.left - 1) holds (row_at j.task rows).hold) its.some (put_back rows ok s kept j holds js turn)
      ∙ ap (left_of i) (sym split))

  lost_then : (b : Bool) → of_task i j ≡ b
      → ◌≡◌ {A = ℕ} (cond (of_task i j) (lost_by event (j.left - 1)) 0) (cond b (lost_by event (j.left - 1)) 0)
  lost_then b e = ap (λ (y : Bool). cond y (lost_by event (j.left - 1)) 0) e

  had_worked : (had i after + cond (of_task i j) (lost_by event (j.left - 1)) 0 ≡ had i s) × (asked rows i after ≡ asked rows i s)
  had_worked = go (raised_tick event j.task s.tasks i its.low (omega (arith, kept.size, its.high)) low)
    where
      go : Raised i j.task 0 (one_done event) 1 (task_at i s.tasks) (task_at i after.tasks)
          → (had i after + cond (of_task i j) (lost_by event (j.left - 1)) 0 ≡ had i s) × (asked rows i after ≡ asked rows i s)
      go (inl x) =
          let e : of_task i j ≡ true = eq-eqb j.task i (sym x.0) in
          let r : (task_at i after.tasks).released ≡ (task_at i s.tasks).released = omega (arith, x.1) in
          (omega (arith, x.3, left_then true e, lost_then true e), ap (λ (k : ℕ). k * units (row_at i rows)) r)
      go (inr x) =
          let e : of_task i j ≡ false = ne_eqb j.task i (λ y. x.0 (sym y)) in
          (omega (arith, x.3, left_then false e, lost_then false e), ap (λ (k : ℕ). k * units (row_at i rows)) x.1)

had_idle : (s : State) → turn_of s.hand s.waiting ≡ nobody → (i : ℕ) → had i (checked (idle_state s)) ≡ had i s
had_idle s turn i = ap (λ (w : List Job). (task_at i s.tasks).given + left_of i w) (sym (nobody_pending s.hand s.waiting turn))

-- At most.

at_most_kept : (rows : List Row) → Ruled rows → Keeps rows Any (GivenAtMost rows)
at_most_kept rows ok = record {
  at_opening = λ i low high. let z = had_opened rows i in omega (arith, z.0, z.1);
  by_release = λ n s in' kept unmissed now m i low high. omega (arith, m i low high, had_release rows ok n s in' kept unmissed now i low);
  by_idle = λ s kept turn m i low high. omega (arith, m i low high, had_idle s turn i);
  by_work = λ s kept c l a x j holds js turn m i low high.
      let z = had_worked rows ok s kept l j holds js turn i low in omega (arith, m i low high, z.0, z.1);
}

pub every_at_most : EveryRun GivenAtMost
every_at_most t calls = kept_by_every_run (rows_of t) (ruled t) (GivenAtMost (rows_of t)) (at_most_kept (rows_of t) (ruled t)) calls

-- Exactly.

-- a job that is not ended by the letter f is done only where no unit is left
none_lost : (l : Letter) (left holds most : ℕ) → (l ≡ Finish → ⊥) → lost_by (event_of l left holds most) left ≡ 0
none_lost Finish left holds most ne = absurd (ne refl)
none_lost Run left holds most ne = go (eqb left 0) refl
  where
    go : (b : Bool) → eqb left 0 ≡ b → lost_by (cond b Done PutBack) left ≡ 0
    go true e = eqb-true left 0 e
    go false e = refl
none_lost Hold left holds most ne = go (eqb left 0) (ltb holds most) refl
  where
    go : (b c : Bool) → eqb left 0 ≡ b → lost_by (cond b Done (cond c Held PutBack)) left ≡ 0
    go true c e = eqb-true left 0 e
    go false true e = refl
    go false false e = refl

-- the letter f is read from no other character
not_finish : (c : ℕ) (l : Letter) → eqb c 102 ≡ false → letter_of c ≡ Some l → l ≡ Finish → ⊥
not_finish c l f x y = go (eqb c 114) (eqb c 104) (eqb c 102) f x
  where
    go : (a b d : Bool) → d ≡ false → cond a (Some Run) (cond b (Some Hold) (cond d (Some Finish) None)) ≡ Some l → ⊥
    go true b d e z = let w : ◌≡◌ {A = ℕ} 0 1 = cc in omega arith
    go false true d e z = let w : ◌≡◌ {A = ℕ} 0 1 = cc in omega arith
    go false false true e z = both_ways true e refl
    go false false false e z = let w : ◌≡◌ {A = ℕ} 0 1 = cc in omega arith

abbrev Exactly : List Row → State → Type 0
Exactly rows s = (i : ℕ) → 1 ≤ i → i ≤ length rows → had i s ≡ asked rows i s

exactly_kept : (rows : List Row) → Ruled rows → Keeps rows Unended (Exactly rows)
exactly_kept rows ok = record {
  at_opening = λ i low high. let z = had_opened rows i in omega (arith, z.0, z.1);
  by_release = λ n s in' kept unmissed now m i low high. omega (arith, m i low high, had_release rows ok n s in' kept unmissed now i low);
  by_idle = λ s kept turn m i low high. omega (arith, m i low high, had_idle s turn i);
  by_work = λ s kept c l a x j holds js turn m i low high.
      let z = had_worked rows ok s kept l j holds js turn i low in
      let w : ◌≡◌ {A = ℕ} (cond (of_task i j) (lost_by (event_at rows l j holds) (j.left - 1)) 0) 0
      = ap (λ (n : ℕ). cond (of_task i j) n 0) (none_lost l (j.left - 1) holds (row_at j.task rows).hold (not_finish c l a x)) ∙ cond_same (of_task i j) in
      omega (arith, m i low high, z.0, z.1);
}

pub given_exactly : GivenExactly
given_exactly t calls unended = kept_by_run (rows_of t) (ruled t) Unended (Exactly (rows_of t)) (exactly_kept (rows_of t) (ruled t)) calls (recursion_from_All Unended calls unended)
