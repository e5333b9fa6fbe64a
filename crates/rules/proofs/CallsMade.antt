-- A run makes its calls in order.
use Rattle.std.proofs.Common.{◌≡◌, List, [], ◌∷◌, ◌++◌, refl}
use Rattle.sheet.specs.declared.row.Row.{Row}
use Rattle.rules.specs.declared.call.Call.{Call}
use Rattle.rules.specs.State.{State}
use Rattle.rules.specs.Run.{called, run_from}
use Rattle.rules.specs.Progress.{CallsInOrder}

pub run_append : (rows : List Row) (xs ys : List Call) (s : State) → run_from rows (xs ++ ys) s ≡ run_from rows ys (run_from rows xs s)
run_append rows [] ys s = refl
run_append rows (c ∷ xs) ys s = run_append rows xs ys (called rows c s)

pub calls_in_order : CallsInOrder
calls_in_order rows s = record { none = refl; one = λ c. refl; joined = λ xs ys. run_append rows xs ys s }
