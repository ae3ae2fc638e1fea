use Rattle.std.proofs.Common.{◌++◌, ℕ, Bool, List, map, ap, ◌∙◌, rules}
use Rattle.std.proofs.lemmas.List.{take_all}
use Rattle.tmem_effect.specs.Names.{has_name}
use Rattle.tmem_seats.specs.Histories.{state_after_history}
use Rattle.tmem_front.proofs.Told.{told_of_one_more}
use Rattle.tmem_front.proofs.values.push_registered.Goals as goal

pub loop-name-preserved : goal.loop-name-preserved
loop-name-preserved g c =
    told_of_one_more _ c.args.names.now c.loop-name.name-index c.name-item.result c.args.has.now.items c.loop-name.has.items c.push.new.self.items _ c.loop-name-test.true c.name-item.is (search rules) c.loop-name.invariant c.in_ok-push.ensures.items

pub returns : goal.returns
returns g c =
    let f : List ℕ → Bool = λ name. has_name (state_after_history g.N.StoreNaming.opening c.args.core.now.committed).names name in
    c.loop-name.invariant ∙ ap (λ (l : List (List ℕ)). c.args.has.now.items ++ map f l) (take_all c.loop-name.name-index c.args.names.now c.loop-name-test.false)
