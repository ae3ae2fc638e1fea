-- A pass that saw and knows more.
use Rattle.std.proofs.Common.{◌≡◌, List, refl, ap, sym, ◌∙◌, subst}
use Rattle.tmem_effect.specs.Prefix.{IsPrefix}
use Rattle.tmem_effect.proofs.Laws.{IsPrefix-self, IsPrefix-trans}
use Rattle.tmem_spine.specs.declared.view.MarkedEffect.{MarkedEffect}
use Rattle.tmem_spine.specs.Views.{PassRoleView}
use Rattle.tmem_seats.specs.Settling.{KnowsMore, SeesMore}

pub sees_the_same : (v : PassRoleView) → SeesMore v v
sees_the_same v = record { pass = refl; seen = IsPrefix-self v.seen; known = IsPrefix-self v.known }

-- what is the same
pub sees_as : (v w : PassRoleView) → w ≡ v → SeesMore v w
sees_as v w same = subst (SeesMore v) (sym same) (sees_the_same v)

-- what knows more saw as much
pub sees_by_knowing : (old new : PassRoleView) → KnowsMore old new → SeesMore old new
sees_by_knowing old new more =
    let seen : new.seen ≡ old.seen = ap (λ (v : PassRoleView). v.seen) more.same in
    record {
      pass = more.same ∙ ap (λ (l : List MarkedEffect). record old { seen = l; known = new.known }) (sym seen);
      seen = subst (λ (l : List MarkedEffect). IsPrefix old.seen l) (sym seen) (IsPrefix-self old.seen);
      known = more.begins;
    }

-- one after the other
pub sees_then : (old mid new : PassRoleView) → SeesMore old mid → SeesMore mid new → SeesMore old new
sees_then old mid new first later =
    let rest : PassRoleView → PassRoleView = λ v. record v { seen = new.seen; known = new.known } in
    record {
      pass = later.pass ∙ ap rest first.pass;
      seen = IsPrefix-trans old.seen mid.seen new.seen first.seen later.seen;
      known = IsPrefix-trans old.known mid.known new.known first.known later.known;
    }
