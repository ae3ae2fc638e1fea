use Rattle.std.proofs.Common.{rules, ◌≡◌, ◌+◌, ◌++◌, ◌∷◌, [], ap, length, set, take, arith, false}
use Rattle.std.proofs.lemmas.List.{take_more_set, length-take-le}
use Rattle.tmem_effect.specs.Names.{has_name}
use Rattle.tmem_effect.proofs.NamesLaws.{AreChecks-push}
use Rattle.tmem_effect.proofs.names.Names.put.Goals as goal

pub invariant_of-self : goal.invariant_of-self
invariant_of-self c =
    let held = take c.self.inside.len c.self.inside.items in
    let made : length c.self.inside.items ≡ 8 = search rules in
    let long : length held ≡ c.self.inside.len = length-take-le c.self.inside.len c.self.inside.items (omega arith) in
    let absent : has_name held c.args.name.now ≡ false = search rules in
    let room = c.requires (search rules) in
    let more : take (c.self.inside.len + 1) (set c.self.inside.items c.self.inside.len c.args.name.now) ≡ held ++ c.args.name.now ∷ [] =
    take_more_set c.self.inside.items c.self.inside.len c.args.name.now (omega (arith, ap length c.self.view_is)) in
    (rw more (AreChecks-push held c.args.name.now absent (omega (arith, ap length c.self.view_is)) c.holds.ensures.is_name c.self.invariant.0), omega (arith, ap length c.self.view_is))
