-- Transactions that are awaited.
use Rattle.std.proofs.Common.{◌≡◌, inl, ℕ, Result, Ok, Err, ap, sym, ◌∙◌}
use Rattle.std.specs.Result.{IsErrAnd}
use Rattle.tmem_fault.specs.declared.fault.Fault.{Fault}
use Rattle.tmem_effect.specs.State.{State}
use Rattle.tmem_tree.specs.declared.settled.Settled.{Settled}
use Rattle.tmem_tree.specs.declared.tx.Tx.{Tx}
use Rattle.tmem_core.specs.Program.{Program}
use Rattle.tmem_spine.specs.Views.{PassRoleView}
use Rattle.tmem_seats.specs.Settling.{SettlesAtLast, SettlesDurably}
use Rattle.tmem_front.proofs.Looks.{sees_as_much}

-- what is refused is not awaited
pub refused_durably : (start : ℕ) (opening : State) (program : Program) (tx : Tx) (old : PassRoleView) (first : Result Settled Fault) (f : Fault) (answer : Result Settled Fault) (new : PassRoleView)
    → first ≡ Err f → IsErrAnd answer (λ e. e ≡ f) → SettlesAtLast start opening program tx old first new → SettlesDurably start opening program tx old answer new
refused_durably start opening program tx old first f (Ok settled) new was handed attempted = absurd handed
refused_durably start opening program tx old first f (Err e) new was handed attempted =
    let same : Err e ≡ first = ap Err handed ∙ sym was in
    record {
      first = first;
      then = new;
      settled = attempted;
      sees = sees_as_much new;
      answered = inl same;
      durable = tt;
      unseen = λ other. absurd (other same);
    }
