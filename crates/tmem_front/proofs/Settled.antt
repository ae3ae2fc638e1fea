-- What a core decides of an attempt, as the pass sees it.
use Rattle.std.proofs.Common.{ℕ, List, ◌++◌, Result, ap, sym, ◌∙◌, subst}
use Rattle.tmem_fault.specs.declared.fault.Fault.{Fault}
use Rattle.tmem_effect.specs.State.{State}
use Rattle.tmem_tree.specs.declared.settled.Settled.{Settled}
use Rattle.tmem_tentative.specs.declared.attempt.Attempt.{Attempt}
use Rattle.tmem_core.specs.Program.{Program}
use Rattle.tmem_core.specs.SettleAnswer.{committed_by}
use Rattle.tmem_spine.specs.declared.view.MarkedEffect.{MarkedEffect}
use Rattle.tmem_spine.specs.History.{count}
use Rattle.tmem_spine.specs.Views.{PassRoleView}
use Rattle.tmem_seats.specs.Deciding.{Decides}
use Rattle.tmem_seats.specs.Histories.{state_after_history, numbered, IsSoundState}
use Rattle.tmem_seats.specs.Seats.{CoreSeatView}
use Rattle.tmem_seats.specs.Settling.{SettlesPass}

-- the pass is settled by what the core decides
pub settles_as_decided : (start : ℕ) (opening : State) (program : Program) (attempt : Attempt) (old : CoreSeatView) (pass : PassRoleView) (answer : Result Settled Fault) (new : CoreSeatView) (pass' : PassRoleView)
    → Decides start opening program attempt old pass answer new pass' → SettlesPass start opening program attempt pass answer pass'
settles_as_decided start opening program attempt old pass answer new pass' d =
    let own = pass.own ++ numbered (count start old.committed) (committed_by answer attempt.effect) in
    record {
      before = old.committed;
      durable = new.trimmed;
      is_shut = old.is_shut;
      begins = d.begins;
      saw = d.trimmed.1;
      number = d.number;
      answered = d.answered;
      verdict = d.verdict;
      pass = d.knows ∙ ap (λ (l : List MarkedEffect). record pass { known = l; own = own }) d.committed;
      sound = subst (λ (l : List MarkedEffect). IsSoundState program (state_after_history opening l)) (sym (ap (λ (v : PassRoleView). v.known) d.knows)) d.sound;
    }
