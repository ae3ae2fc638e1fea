use Rattle.std.proofs.Common.{rules, ◌≡◌, ◌++◌, ◌∷◌, [], arith, true}
use Rattle.std.specs.Prelude.{All}
use Rattle.tmem_effect.specs.Names.{is_before}
use Rattle.tmem_effect.proofs.Laws.{AreRegistered-push}
use Rattle.tmem_state.proofs.name_set.NameSet.push.Goals as goal

pub invariant_of-self : goal.invariant_of-self
invariant_of-self c =
    let below : All (λ n. is_before n c.args.name.now ≡ true) c.self.inside.items.items = search rules in
    let pushed : c.push.new.self.items ≡ c.self.inside.items.items ++ c.args.name.now ∷ [] = search rules in
    (rw pushed (AreRegistered-push c.self.inside.items.items c.args.name.now below (omega (arith, c.self.invariant.0.few)) c.as_bytes.ensures.is_name c.self.invariant.0), omega arith)
