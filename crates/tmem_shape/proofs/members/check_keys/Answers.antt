use Rattle.std.proofs.Common.{◌≡◌, Some, map, arith}
use Rattle.serde_json.specs.View.{view, members_view}
use Rattle.tmem_shape.specs.Keys.{key_text}
use Rattle.tmem_shape.proofs.Objects.{has_another, object_found}
use Rattle.tmem_shape.proofs.members.check_keys.Goals as goal

pub returns-clause-refused : goal.returns-clause-refused
returns-clause-refused c =
    let members = c.in_ok-members.members in
    let found : c.as_object.result ≡ Some members = grind arith in
    has_another (map key_text c.args.keys.now) (view c.args.value.now) (members_view members.now.entries) c.in-Some.key.now
    (object_found (view c.args.value.now) c.as_object.result members c.as_object.ensures found) c.in-Some.ensures.0 c.in-Some.ensures.1
