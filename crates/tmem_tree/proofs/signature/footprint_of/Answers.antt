use Rattle.std.proofs.Common.{◌≡◌, [], option_map, ap, sym, ◌∙◌, subst}
use Rattle.std.specs.Option.{option_map_or}
use Rattle.tmem_invariants.specs.TableNames.{AreBelow}
use Rattle.tmem_tree.specs.declared.signature.Signature.{Signature}
use Rattle.tmem_tree.specs.Signatures.{footprint_in}
use Rattle.tmem_tree.proofs.Found.{IsSome-shown, is_some-signature_in, footprint_in-AreMeant, AreBelow-footprint_in}
use Rattle.tmem_tree.proofs.signature.footprint_of.Goals as goal

pub unwrap-requires : goal.unwrap-requires
unwrap-requires c =
    IsSome-shown _ c.find.result _ c.find.ensures (is_some-signature_in c.args.signatures.now c.args.name.now ∙ c.requires)

pub returns-clause-footprint : goal.returns-clause-footprint
returns-clause-footprint c =
    c.as_slice.ensures.vars
    ∙ ap (λ o. option_map_or (λ (signature : Signature). signature.footprint) o []) (sym (ap (option_map (λ signature. signature.now)) c.unwrap.ensures) ∙ c.find.ensures)

pub returns-clause-meant : goal.returns-clause-meant
returns-clause-meant c tests meant =
    let there = returns-clause-footprint c in
    there ∙ footprint_in-AreMeant tests c.args.signatures.now c.args.name.now meant c.requires

pub returns-clause-within : goal.returns-clause-within
returns-clause-within c vars within =
    let there : c.as_slice.result.now ≡ footprint_in c.args.signatures.now c.args.name.now = returns-clause-footprint c in
    subst (AreBelow vars) (sym there) (AreBelow-footprint_in vars c.args.signatures.now c.args.name.now within)
