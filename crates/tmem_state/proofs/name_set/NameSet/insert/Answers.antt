use Rattle.std.proofs.Common.{rules, ◌≡◌, ap, sym, ◌∙◌, length, arith, false, insert}
use Rattle.std.specs.List.{prefix_len}
use Rattle.std.proofs.lemmas.List.Sums.{prefix_len-le-length}
use Rattle.tmem_effect.specs.Names.{has_name, is_before, at_its_place}
use Rattle.tmem_effect.proofs.Laws.{AreRegistered-at_its_place, at_its_place-insert}
use Rattle.tmem_state.proofs.name_set.NameSet.insert.Goals as goal

pub insert-requires : goal.insert-requires
insert-requires c =
    let index : c.count_below-index.result ≡ prefix_len (λ n. is_before n c.args.name.now) c.self.inside.items.items = search rules in
    omega (arith, prefix_len-le-length (λ n. is_before n c.args.name.now) c.self.inside.items.items)

pub invariant_of-self : goal.invariant_of-self
invariant_of-self c =
    let absent : has_name c.self.inside.items.items c.args.name.now ≡ false = search rules in
    let room = c.requires (search rules) in
    let index : c.count_below-index.result ≡ prefix_len (λ n. is_before n c.args.name.now) c.self.inside.items.items = search rules in
    let inserted : c.insert.new.self.items ≡ insert c.self.inside.items.items c.count_below-index.result c.args.name.now = search rules in
    let placed : c.insert.new.self.items ≡ at_its_place c.self.inside.items.items c.args.name.now =
    inserted ∙ ap (λ k. insert c.self.inside.items.items k c.args.name.now) index ∙ sym (at_its_place-insert c.self.inside.items.items c.args.name.now) in
    (rw placed (AreRegistered-at_its_place c.self.inside.items.items c.args.name.now absent (omega (arith, ap length c.self.view_is)) c.holds.ensures.is_name c.self.invariant.0), omega arith)

pub returns-then-not-holds : goal.returns-then-not-holds
returns-then-not-holds c =
    let absent : has_name c.self.inside.items.items c.args.name.now ≡ false = search rules in
    let index : c.count_below-index.result ≡ prefix_len (λ n. is_before n c.args.name.now) c.self.inside.items.items = search rules in
    let inserted : c.insert.new.self.items ≡ insert c.self.inside.items.items c.count_below-index.result c.args.name.now = search rules in
    let placed : c.insert.new.self.items ≡ at_its_place c.self.inside.items.items c.args.name.now =
    inserted ∙ ap (λ k. insert c.self.inside.items.items k c.args.name.now) index ∙ sym (at_its_place-insert c.self.inside.items.items c.args.name.now) in
    rw (← c.self.view_is, absent) placed
