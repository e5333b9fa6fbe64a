-- What a tick leaves of the counts of tasks.
use Rattle.std.proofs.Common.{◌≡◌, ℕ, ◌+◌, ◌-◌, ◌≤◌, List, length, refl, ◌∙◌, arith, length-set}
use Rattle.sheet.specs.declared.row.Row.{Row}
use Rattle.duty_log.specs.declared.line.Event.{Event}
use Rattle.duty_log.specs.declared.line.Event.TheVariants.{PutBack, Held, Done, Idle}
use Rattle.rules.specs.declared.counts.TaskCounts.{TaskCounts}
use Rattle.rules.specs.declared.letter.Letter.{Letter}
use Rattle.rules.specs.State.{State, no_counts}
use Rattle.rules.specs.Tick.{Turn, nobody, runs, turn_of, one_done, event_at, with_tick, after_turn, tick}
use Rattle.duty_bench.specs.Bounds.{Counted, Settled}
use Rattle.duty_bench.proofs.Updates.{given_tick, each_updated}

Bounded : ℕ → ℕ → TaskCounts → Type 0
Bounded r t k = (k.released ≤ r) × (k.done ≤ t) × (k.given ≤ t)

done_few : (e : Event) → one_done e ≤ 1
done_few Done = omega arith
done_few PutBack = omega arith
done_few Held = omega arith
done_few Idle = omega arith

counted_tick : (r t i : ℕ) (e : Event) (xs : List TaskCounts) → Counted r t xs → Counted r (t + 1) (with_tick e i xs)
unfolding Bounded
counted_tick r t i e xs c =
    each_updated no_counts (given_tick (one_done e)) (Bounded r t) (Bounded r (t + 1)) (λ k b. omega arith) (λ k b. omega (arith, done_few e)) xs (i - 1) c

settled_turn : (rows : List Row) (l : Letter) (t : Turn) (s : State) → length s.tasks ≡ 32 → Counted (s.clock + 1) s.clock s.tasks
    → Settled (after_turn rows l t s).clock (after_turn rows l t s).tasks
settled_turn rows l nobody s whole c = record { whole = whole; counted = λ k. (omega (arith, (c k).0), omega (arith, (c k).1), omega (arith, (c k).2)) }
settled_turn rows l (runs j holds js) s whole c = record {
  whole = length-set s.tasks (j.task - 1) _ ∙ whole;
  counted = counted_tick (s.clock + 1) s.clock j.task (event_at rows l j holds) s.tasks c;
}

pub settled_ticked : (rows : List Row) (l : Letter) (s : State) → length s.tasks ≡ 32 → Counted (s.clock + 1) s.clock s.tasks
    → Settled (tick rows l s).state.clock (tick rows l s).state.tasks
settled_ticked rows l s = settled_turn rows l (turn_of s.hand s.waiting) s

-- until the check no turn stops the bench
pub turn_miss : (rows : List Row) (l : Letter) (t : Turn) (s : State) → (after_turn rows l t s).miss ≡ s.miss
turn_miss rows l nobody s = refl
turn_miss rows l (runs j holds js) s = refl
