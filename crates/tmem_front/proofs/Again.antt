-- Attempts that are made again until one is settled.
use Rattle.std.proofs.Common.{◌≡◌, inl, inr, ⊎_elim, Bool, true, false, ℕ, ◌≤◌, List, [], ◌++◌, Result, Err, refl, ap, sym, ◌∙◌, subst}
use Rattle.std.proofs.Props.{props}
use Rattle.std.proofs.Math.Logic.{∥∥₁_elim, ∥∥₁_map}
use Rattle.std.proofs.lemmas.List.{append-nil}
use Rattle.tmem_fault.specs.declared.fault.Fault.{Fault}
use Rattle.tmem_effect.specs.Prefix.{IsPrefix}
use Rattle.tmem_effect.specs.State.{State}
use Rattle.tmem_effect.specs.declared.effect.Effect.{Effect}
use Rattle.tmem_effect.proofs.Laws.{IsPrefix-self, IsPrefix-trans}
use Rattle.tmem_tree.specs.declared.settled.Settled.{Settled}
use Rattle.tmem_tentative.specs.declared.attempt.Attempt.{Attempt}
use Rattle.tmem_core.specs.Program.{Program}
use Rattle.tmem_core.specs.SettleAnswer.{committed_by}
use Rattle.tmem_spine.specs.declared.view.MarkedEffect.{MarkedEffect}
use Rattle.tmem_spine.specs.History.{count}
use Rattle.tmem_spine.specs.Views.{PassRoleView}
use Rattle.tmem_seats.specs.Histories.{marked, numbered}
use Rattle.tmem_fault.specs.declared.fault.Fault.TheVariants as fault
use Rattle.tmem_tree.specs.declared.tx.Tx.{Tx}
use Rattle.tmem_tentative.specs.Right.{IsRight}
use Rattle.tmem_seats.specs.Settling.{SettlesPass, SettlesPlan, SettlesAtLast, KnowsMore}

-- a pass that knows more settles as it would have before
pub settles_later : (start : ℕ) (opening : State) (program : Program) (attempt : Attempt) (old mid : PassRoleView) (answer : Result Settled Fault) (new : PassRoleView)
    → KnowsMore old mid → SettlesPass start opening program attempt mid answer new → SettlesPass start opening program attempt old answer new
settles_later start opening program attempt old mid answer new more s = record {
  before = s.before;
  durable = s.durable;
  is_shut = s.is_shut;
  begins = IsPrefix-trans old.known mid.known s.before more.begins s.begins;
  saw = subst (λ (l : List MarkedEffect). count start l ≤ s.durable) (ap (λ (v : PassRoleView). v.seen) more.same) s.saw;
  number = s.number;
  answered = s.answered;
  verdict = s.verdict;
  pass = s.pass ∙ ap (λ (v : PassRoleView). record v { known = s.before ++ marked v.mark (committed_by answer attempt.effect); own = v.own ++ numbered (count start s.before) (committed_by answer attempt.effect) }) more.same;
  sound = s.sound;
}

-- where nothing is committed, the pass knows more and no more
pub knows_more : (start : ℕ) (opening : State) (program : Program) (attempt : Attempt) (old : PassRoleView) (answer : Result Settled Fault) (new : PassRoleView)
    → committed_by answer attempt.effect ≡ [] → SettlesPass start opening program attempt old answer new → KnowsMore old new
knows_more start opening program attempt old answer new none s =
    let K = s.before ++ marked old.mark (committed_by answer attempt.effect) in
    let known : new.known ≡ s.before =
    ap (λ (v : PassRoleView). v.known) s.pass ∙ (ap (λ (es : List Effect). s.before ++ marked old.mark es) none ∙ append-nil s.before) in
    let own : old.own ++ numbered (count start s.before) (committed_by answer attempt.effect) ≡ old.own =
    ap (λ (es : List Effect). old.own ++ numbered (count start s.before) es) none ∙ append-nil old.own in
    record {
      same = s.pass ∙ (ap (λ (o : List (ℕ × Effect)). record old { known = K; own = o }) own ∙ ap (λ (l : List MarkedEffect). record old { known = l }) (sym (ap (λ (v : PassRoleView). v.known) s.pass)));
      begins = subst (λ (l : List MarkedEffect). IsPrefix old.known l) (sym known) s.begins;
    }

pub knows_still : (old : PassRoleView) → KnowsMore old old
knows_still old = record { same = refl; begins = IsPrefix-self old.known }

-- the last turn, of a pass that knows more by then
pub settles_at_last : (start : ℕ) (opening : State) (program : Program) (tx : Tx) (old mid : PassRoleView) (answer : Result Settled Fault) (new : PassRoleView)
    → KnowsMore old mid → SettlesPlan start opening program tx mid answer new → SettlesAtLast start opening program tx old answer new
settles_at_last start opening program tx old mid answer new more = ⊎_elim
    (λ (no : (answer ≡ Err fault.Memory) × (new ≡ mid)). inl (no.0, subst (λ v. KnowsMore old v) (sym no.1) more))
    (λ (held : ∥ ((attempt : Attempt) × IsRight program.steps program.tests tx attempt × SettlesPass start opening program attempt mid answer new) ∥₁).
    inr (∥∥₁_map held (λ h. (h.0, h.1, settles_later start opening program h.0 old mid answer new more h.2))))

-- a turn that is not the last
pub knows_more_at_last : (start : ℕ) (opening : State) (program : Program) (tx : Tx) (old : PassRoleView) (answer : Result Settled Fault) (new : PassRoleView)
    → ((effect : Effect) → committed_by answer effect ≡ []) → SettlesAtLast start opening program tx old answer new → KnowsMore old new
knows_more_at_last start opening program tx old answer new none = ⊎_elim
    (λ (no : (answer ≡ Err fault.Memory) × KnowsMore old new). no.1)
    (λ (held : ∥ ((attempt : Attempt) × IsRight program.steps program.tests tx attempt × SettlesPass start opening program attempt old answer new) ∥₁). record {
      same = ∥∥₁_elim held (hlevel props) (λ h. (knows_more start opening program h.0 old answer new (none h.0.effect) h.2).same);
      begins = ∥∥₁_elim held (hlevel props) (λ h. (knows_more start opening program h.0 old answer new (none h.0.effect) h.2).begins);
    })

-- what never ends has not ended
pub not_over : {E : Type 0} (over : Bool) → (over ≡ true → E) → (E → ⊥) → over ≡ false
not_over true ends never = absurd (never (ends refl))
not_over false ends never = refl
