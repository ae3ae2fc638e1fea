use Rattle.std.proofs.Common.{◌≡◌, Some, inl, refl}
use Rattle.serde_json.specs.Find.{get}
use Rattle.serde_json.specs.View.{view}
use Rattle.tmem_requests.specs.Wrong.{whole}
use Rattle.tmem_requests.proofs.Wrongs.{strange_key}
use Rattle.tmem_requests.proofs.explain.find_in_asked.Goals as goal

pub returns-in_default-known_key : goal.returns-in_default-known_key
returns-in_default-known_key c =
    let d = view c.args.value.now in
    let found : get c.in-Some.asked.now d ≡ Some (view c.in-Some.body.now) = c.in-Some.ensures.found in
    c.here-in_default-known_key.ensures whole d (inl (strange_key c.in-Some.asked.now d (view c.in-Some.body.now) found c.in-Some.ensures.beside (c.in_default-known_key.ensures.none refl)))
