use Rattle.std.proofs.Common.{rules, ◌≡◌, arith}
use Rattle.std.proofs.lemmas.Fn.{filter_same}
use Rattle.tmem_effect.specs.Names.{without_name}
use Rattle.tmem_effect.proofs.Laws.{AreRegistered-without_name}
use Rattle.tmem_state.proofs.name_set.NameSet.remove.Goals as goal

left : (c : goal.After-retain) → c.retain.new.self.items ≡ without_name c.self.inside.items.items c.args.name.now
left c = filter_same _ _ _ (λ x b f' k. search rules) _ _ c.retain.ensures.filtered

pub invariant_of-self : goal.invariant_of-self
invariant_of-self c = (rw (left c) (AreRegistered-without_name c.self.inside.items.items c.args.name.now c.self.invariant.0), omega (arith, c.retain.ensures.capacity, c.self.invariant.1))

pub returns : goal.returns
returns c = rw (← c.self.view_is) (left c)
