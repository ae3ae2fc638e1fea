use Rattle.std.proofs.Common.{Result, Ok, Err}
use Rattle.std.specs.Prelude.{IfOk}
use Rattle.tmem_fault.specs.declared.fault.Fault.{Fault}
use Rattle.tmem_front.specs.Held.{front_found}
use Rattle.tmem_bench.specs.Counting.{AreTotals}
use Rattle.tmem_bench.proofs.totals.open_and_count.Goals as goal

-- what holds of the state that was found holds of one
of_one : {A S : Type 0} (r : Result A Fault) (P : S → A → Type 0) (s : S) → IfOk r (P s) → IfOk r (λ a. (x : S) × P x a)
of_one (Ok a) P s is = (s, is)
of_one (Err f) P s is = is

pub returns-in-Ok : goal.returns-in-Ok
returns-in-Ok g c = of_one c.count_opened.result (λ s. AreTotals s c.args.work) (front_found c.in-Ok.opened) c.count_opened.ensures
