use Rattle.std.proofs.Common.{◌≡◌, true, map, sym, ap, ◌∙◌, string_bytes}
use Rattle.tmem_fault.specs.Name.{has_name}
use Rattle.tmem_shape.specs.Keys.{key_text}
use Rattle.tmem_shape.proofs.Objects.{among_more, known_more}
use Rattle.tmem_shape.proofs.members.unknown_key.Goals as goal

pub loop-key-preserved : goal.loop-key-preserved
loop-key-preserved c =
    let keys = map key_text c.args.keys.now in
    let es = c.loop-key.key-iterator in
    let rest = c.next.new.self in
    let key = c.in-Some.key.now in
    let value = c.in-Some.field-0-1.now in
    let here : has_name keys (string_bytes key) ≡ true = ap (has_name keys) (sym c.as_str.ensures.value) ∙ sym c.is_among.ensures ∙ c.if-not-is_among.false in
    record {
      known = λ known. c.loop-key.invariant.known (known_more keys es rest key value c.in-Some.ensures.steps here known);
      among = λ k later. c.loop-key.invariant.among k (among_more es rest key value k c.in-Some.ensures.steps later);
    }
