-- Attempts that are made again until one is settled.
use Rattle.std.proofs.Common.{◌≡◌, ◌∙◌, [], Result, Ok, Err, refl, sym, ap, subst}
use Rattle.tmem_fault.specs.declared.fault.Fault.{Fault}
use Rattle.tmem_core.specs.SettleAnswer.{committed_by}
use Rattle.tmem_seats.specs.Settling.{SettlesPass, SettlesPlan, SettlesAtLast, KnowsMore}
use Rattle.tmem_front.proofs.Laws.{settles_at_last, knows_more_at_last, knows_more, settles_later}
use Rattle.tmem_effect.specs.declared.effect.Effect.{Effect}
use Rattle.tmem_effect.proofs.Laws.{IsPrefix-trans}
use Rattle.tmem_spine.specs.Views.{PassRoleView}
use Rattle.tmem_tentative.specs.declared.attempt.Attempt.{Attempt}
use Rattle.tmem_tree.specs.declared.settled.Settled.{Settled}
use Rattle.tmem_tree.specs.declared.tx.Tx.{Tx}
use Rattle.tmem_answers.specs.declared.answer.Answer.{Answer}
use Rattle.tmem_requests.specs.declared.proposal.Proposal.{Proposal}
use Rattle.tmem_desk.specs.Asking.{Store, SettlesProposal, SettlesTx}

-- an attempt of a plan that is settled
pub settles_tx : (s : Store) (tx : Tx) (old mid new : PassRoleView) (answer : Result Settled Fault) (settled : Settled) → KnowsMore old mid
    → SettlesPlan s.start s.opening s.program tx mid answer new → answer ≡ Ok settled → SettlesTx s tx old settled new
settles_tx s tx old mid new answer settled more plan is =
    subst (λ (r : Result Settled Fault). SettlesAtLast s.start s.opening s.program tx old r new) is (settles_at_last s.start s.opening s.program tx old mid answer new more plan)

-- one that met another value, or no room, committed nothing
pub knows_again : (s : Store) (tx : Tx) (old mid new : PassRoleView) (answer : Result Settled Fault) (f : Fault) → KnowsMore old mid
    → SettlesPlan s.start s.opening s.program tx mid answer new → answer ≡ Err f → KnowsMore old new
knows_again s tx old mid new answer f more plan is =
    knows_more_at_last s.start s.opening s.program tx old answer new (λ (effect : Effect). subst (λ (r : Result Settled Fault). committed_by r effect ≡ []) (sym is) refl)
    (settles_at_last s.start s.opening s.program tx old mid answer new more plan)

-- the same of an attempt that was made elsewhere
pub knows_again_elsewhere : (s : Store) (attempt : Attempt) (old mid new : PassRoleView) (answer : Result Settled Fault) (f : Fault) → KnowsMore old mid
    → SettlesPass s.start s.opening s.program attempt mid answer new → answer ≡ Err f → KnowsMore old new
knows_again_elsewhere s attempt old mid new answer f more settles is =
    knows_more s.start s.opening s.program attempt old answer new (subst (λ (r : Result Settled Fault). committed_by r attempt.effect ≡ []) (sym is) refl)
    (settles_later s.start s.opening s.program attempt old mid answer new more settles)

-- what is known after attempts that committed nothing, and after others that did not either
pub knows_then : (old mid new : PassRoleView) → KnowsMore old mid → KnowsMore mid new → KnowsMore old new
knows_then old mid new more other = record {
  same = other.same ∙ ap (λ (v : PassRoleView). record v { known = new.known }) more.same;
  begins = IsPrefix-trans old.known mid.known new.known more.begins other.begins;
}

-- a proposal that is settled after attempts that committed nothing
pub proposal_later : (s : Store) (proposal : Proposal) (old mid new : PassRoleView) (given : Answer) → KnowsMore old mid → SettlesProposal s proposal mid given new → SettlesProposal s proposal old given new
proposal_later s proposal old mid new given more settled =
    record {
      attempt = settled.attempt;
      made = settled.made;
      result = settled.result;
      then = settled.then;
      settles = settles_later s.start s.opening s.program settled.attempt old mid settled.result settled.then more settled.settles;
      knows = settled.knows;
      tells = settled.tells;
      end = settled.end;
    }
