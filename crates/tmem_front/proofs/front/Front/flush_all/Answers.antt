use Rattle.std.proofs.Common.{rules, List, ap, sym, ◌∙◌, subst}
use Rattle.std.proofs.lemmas.Result.{err_from_is_err_and}
use Rattle.tmem_spine.specs.declared.view.MarkedEffect.{MarkedEffect}
use Rattle.tmem_spine.specs.History.{count}
use Rattle.tmem_seats.specs.Flushing.{IsFlusherRefusal}
use Rattle.tmem_front.proofs.Looks.{sees_where_it_knows, sees_further}
use Rattle.tmem_front.proofs.front.Front.flush_all.Goals as goal

pub loop-init : goal.loop-init
loop-init g c = record {
  sees = sees_where_it_knows _ _ (search rules);
  known = search rules;
}

pub loop-preserved : goal.loop-preserved
loop-preserved g c = record {
  sees = sees_further _ _ _ c.loop.invariant.sees c.sees_all.ensures.sees;
  known = c.loop.invariant.known ∙ sym (ap (λ (l : List MarkedEffect). count g.N.Naming.name.start l) (c.sees_all.ensures.same c.if-sees_all.false));
}

pub returns-then-sees_all : goal.returns-then-sees_all
returns-then-sees_all g c = record {
  all = c.sees_all.ensures.all c.if-sees_all.true;
  durable = search rules;
  refused = tt;
  sees = sees_further _ _ _ c.loop.invariant.sees c.sees_all.ensures.sees;
}

pub returns-in_err-flush_with_room : goal.returns-in_err-flush_with_room
returns-in_err-flush_with_room g c =
    let handed = err_from_is_err_and c.from_residual.result c.from_residual.ensures.1 in
    rw handed.1 (record {
      all = tt;
      durable = tt;
      refused = subst (λ fault. IsFlusherRefusal fault) (sym handed.2) c.in_err-flush_with_room.ensures.refused;
      sees = sees_further _ _ _ c.loop.invariant.sees c.sees_all.ensures.sees;
    })
