-- A bench is stopped by a late job, and by nothing else.
use Rattle.std.proofs.Common.{◌≡◌, ℕ, ◌-◌, ◌<◌, ◌≤◌, Bool, true, false, cond, leb, ◌⊎◌, List, [], ◌∷◌, Some, None, Option, Contains, sym, refl, ◌∙◌, subst, inl, inr, arith}
use Rattle.std.specs.List.{AllByRecursion}
use Rattle.std.proofs.ByRecursion.{All-weaker}
use Rattle.std.proofs.lemmas.List.Elements.{All-from_recursion, All-contains}
use Rattle.std.proofs.lemmas.Bool.{leb-true}
use Rattle.sheet.specs.declared.row.Row.{Row}
use Rattle.sheet.specs.Tables.{rows_of}
use Rattle.verdict.specs.Test.{row_at}
use Rattle.ready.specs.declared.job.Job.{Job}
use Rattle.ready.specs.Order.{before}
use Rattle.ready.specs.Sorted.{Sorted}
use Rattle.ready.proofs.Urgency.{before_one_way, not_before_chain, before_self}
use Rattle.rules.specs.declared.hand.Held.{Held}
use Rattle.rules.specs.State.{State, pending_of, pending}
use Rattle.rules.specs.Tick.{most_urgent, late_at, missed}
use Rattle.rules.specs.Run.{after_run}
use Rattle.rules.specs.Promises.{EveryRun, Running, InTime, RunsWhileInTime}
use Rattle.rules.specs.Accounts.{Proper, Late, MissIsLate}
use Rattle.rules.proofs.Rows.{Ranges}
use Rattle.rules.proofs.Times.{counted_due}
use Rattle.rules.proofs.Kept.{Ruled, ruled, Unmissed, Sound}
use Rattle.rules.proofs.Runs.{sound_run}
use Rattle.rules.proofs.Laws.{in_time}
use Rattle.rules.proofs.Induction.{Any, Keeps, kept_by_every_run}

-- a late job is named where its key is at or below the clock
late_key : (t : ℕ) (k j : Job) → late_at t (Some k) ≡ Some j → (k ≡ j) × (k.key ≤ t)
late_key t k j = go (leb k.key t) refl
  where
    go : (b : Bool) → leb k.key t ≡ b → cond b (Some k) None ≡ Some j → (k ≡ j) × (k.key ≤ t)
    go true e h = (cc, leb-true k.key t e)
    go false e h = let z : ◌≡◌ {A = ℕ} 0 1 = cc in absurd (omega arith)

abbrev LateIn : ℕ → List Job → Job → Type 0
LateIn t js j = Contains js j × ((j.key ≤ t) × AllByRecursion (λ k. before k j ≡ false) js)

-- the most urgent job among hand and list, where the list is in order
late_in : (t : ℕ) (h : Option Held) (js : List Job) (j : Job) → Sorted before js → late_at t (most_urgent h js) ≡ Some j → LateIn t (pending_of h js) j
late_in t None [] j s e = let z : ◌≡◌ {A = ℕ} 0 1 = cc in absurd (omega arith)
late_in t None (k ∷ ks) j s e =
    let m = late_key t k j e in
    subst (LateIn t (k ∷ ks)) m.0 ((0, omega arith, refl), (m.1, (before_self k, s.0)))
late_in t (Some held) [] j s e =
    let m = late_key t held.job j e in
    subst (LateIn t (held.job ∷ [])) m.0 ((0, omega arith, refl), (m.1, (before_self held.job, tt)))
late_in t (Some held) (k ∷ ks) j s e = go (before k held.job) refl e
  where
    go : (b : Bool) → before k held.job ≡ b → late_at t (Some (cond b k held.job)) ≡ Some j → LateIn t (held.job ∷ k ∷ ks) j
    go true x h =
        let m = late_key t k j h in
        subst (LateIn t (held.job ∷ k ∷ ks)) m.0 ((1, omega arith, refl), (m.1, (before_one_way k held.job x, (before_self k, s.0))))
    go false x h =
        let m = late_key t held.job j h in
        subst (LateIn t (held.job ∷ k ∷ ks)) m.0 ((0, omega arith, refl), (m.1, (before_self held.job, (x, All-weaker (λ y. before y k ≡ false) (λ y. before y held.job ≡ false) (λ y z. not_before_chain y k held.job z x) ks s.0))))

-- the miss is what the last check found
abbrev Found : State → Type 0
Found s = (s.miss ≡ None) ⊎ (s.miss ≡ missed s)

-- a job that is not late stops nothing
none_late : (s : State) → Sorted before s.waiting → Unmissed s → Found s → s.miss ≡ None
none_late s sorted unmissed (inl e) = e
none_late s sorted unmissed (inr e) = go (missed s) refl
  where
    go : (o : Option Job) → missed s ≡ o → s.miss ≡ None
    go None x = e ∙ x
    go (Some j) x =
        let f = late_in s.clock s.hand s.waiting j sorted x in
        absurd (omega (arith, f.1.0, All-contains (λ (k : Job). s.clock < k.key) (pending s) j (All-from_recursion (λ (k : Job). s.clock < k.key) (pending s) unmissed) f.0))

found_kept : (rows : List Row) → Keeps rows Any Found
found_kept rows = record {
  at_opening = inl refl;
  by_release = λ n s in' kept unmissed now found. inl (none_late s kept.sorted unmissed found);
  by_idle = λ s kept turn found. inr refl;
  by_work = λ s kept c l a x j holds js turn found. inr refl;
}

pub every_miss : EveryRun MissIsLate
every_miss t calls j e = go (kept_by_every_run (rows_of t) (ruled t) Found (found_kept (rows_of t)) calls)
  where
    go : Found (after_run (rows_of t) calls) → Late (after_run (rows_of t) calls) j
    go (inl none) = let z : ◌≡◌ {A = ℕ} 0 1 = cc in absurd (omega arith)
    go (inr is) =
        let s = after_run (rows_of t) calls in
        let f = late_in s.clock s.hand s.waiting j (sound_run t calls).kept.sorted (sym is ∙ e) in
        record { pends = f.0; due = f.1.0; first = All-from_recursion (λ k. before k j ≡ false) (pending s) f.1.1 }

-- a late job's deadline is among those that have come, and it is not done
stopped_is_late : (rows : List Row) → Ruled rows → (s : State) → Sound rows s → (j : Job) → Late s j → InTime rows s → ⊥
stopped_is_late rows ok s sound j late met =
    let p : Proper rows s j = All-contains (Proper rows s) (pending s) j (All-from_recursion (Proper rows s) (pending s) sound.kept.proper) late.pends in
    let r : Ranges (row_at j.task rows) = ok.ranges j.task in
    let d = counted_due (row_at j.task rows) (j.number - 1) s.clock r.some_period (omega (arith, p.key, late.due)) in
    omega (arith, p.undone, met j.task p.low p.high)

pub every_while_in_time : EveryRun RunsWhileInTime
every_while_in_time t calls = record {
  running = in_time (rows_of t) (ruled t) (after_run (rows_of t) calls) (sound_run t calls);
  in_time = λ met. go met (after_run (rows_of t) calls).miss refl;
}
  where
    go : InTime (rows_of t) (after_run (rows_of t) calls) → (o : Option Job) → (after_run (rows_of t) calls).miss ≡ o → Running (rows_of t) (after_run (rows_of t) calls)
    go met None e = e
    go met (Some j) e = absurd (stopped_is_late (rows_of t) (ruled t) (after_run (rows_of t) calls) (sound_run t calls) j (every_miss t calls j e) met)
