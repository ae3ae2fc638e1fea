use Rattle.std.proofs.Common.{◌≡◌, not, false, Some, option_map, All, Contains, sym, ap, subst, ◌∙◌}
use Rattle.std.proofs.lemmas.List.Elements.{All-push}
use Rattle.tmem_fault.specs.Name.{has_name}
use Rattle.tmem_tree.specs.Signatures.{signature_in, names_of}
use Rattle.tmem_tree.proofs.Checked.{has_name-others, distinct_pushed}
use Rattle.tmem_tree.proofs.Found.{IsSome-shown, is_some-shown, is_some-signature_in, found_signature, has_name-pushed}
use Rattle.tmem_tree.proofs.signatures.add.Goals as goal

pub unwrap-requires : goal.unwrap-requires
unwrap-requires c =
    IsSome-shown _ c.find-then-is_none.result _ c.find-then-is_none.ensures (is_some-signature_in c.args.signatures.now c.args.name.now ∙ c.requires.known)

pub returns-then-is_none-clause-known : goal.returns-then-is_none-clause-known
returns-then-is_none-clause-known c =
    let at : signature_in c.args.signatures.now c.args.name.now ≡ Some c.unwrap.result.now = sym c.find-then-is_none.ensures ∙ ap (option_map (λ signature. signature.now)) c.unwrap.ensures in
    let found = found_signature c.args.signatures.now c.args.name.now c.unwrap.result.now at in
    rw c.push.ensures (has_name-pushed c.args.into.now c.unwrap.result.now c.args.name.now found.1)

pub returns-then-is_none-clause-among : goal.returns-then-is_none-clause-among
returns-then-is_none-clause-among c all =
    let at : signature_in c.args.signatures.now c.args.name.now ≡ Some c.unwrap.result.now = sym c.find-then-is_none.ensures ∙ ap (option_map (λ signature. signature.now)) c.unwrap.ensures in
    let found = found_signature c.args.signatures.now c.args.name.now c.unwrap.result.now at in
    subst (All (Contains c.args.signatures.now)) (sym c.push.ensures) (All-push (Contains c.args.signatures.now) c.args.into.now c.unwrap.result.now all found.0)

pub returns-else-is_none-clause-known : goal.returns-else-is_none-clause-known
returns-else-is_none-clause-known c =
    rw (← c.as_slice.ensures) (sym (is_some-signature_in c.as_slice.result.now c.args.name.now) ∙ sym (is_some-shown _ c.find.result _ c.find.ensures) ∙ c.is_none.ensures ∙ ap not c.if-is_none.false)

pub returns-then-is_none-clause-checked : goal.returns-then-is_none-clause-checked
returns-then-is_none-clause-checked c = λ other.
    let at : signature_in c.args.signatures.now c.args.name.now ≡ Some c.unwrap.result.now = sym c.find-then-is_none.ensures ∙ ap (option_map (λ signature. signature.now)) c.unwrap.ensures in
    let found = found_signature c.args.signatures.now c.args.name.now c.unwrap.result.now at in
    rw c.push.ensures (has_name-others c.args.into.now c.unwrap.result.now c.args.name.now other found.1)

pub returns-then-is_none-clause-once : goal.returns-then-is_none-clause-once
returns-then-is_none-clause-once c = λ distinct.
    let at : signature_in c.args.signatures.now c.args.name.now ≡ Some c.unwrap.result.now = sym c.find-then-is_none.ensures ∙ ap (option_map (λ signature. signature.now)) c.unwrap.ensures in
    let found = found_signature c.args.signatures.now c.args.name.now c.unwrap.result.now at in
    let none : has_name (names_of c.args.into.now) c.args.name.now ≡ false =
    rw (← c.as_slice.ensures) (sym (is_some-signature_in c.as_slice.result.now c.args.name.now) ∙ sym (is_some-shown _ c.find.result _ c.find.ensures) ∙ c.is_none.ensures ∙ ap not c.if-is_none.true) in
    rw c.push.ensures (distinct_pushed c.args.into.now c.unwrap.result.now c.args.name.now found.1 none distinct)
