use Rattle.std.proofs.Common.{◌≤◌, ◌∙◌, ◌∷◌, [], ℕ, ap, length, refl, arith}
use Rattle.byteorder.specs.Endian.{little_bytes}
use Rattle.tmem_record.specs.Spelling.{names_bytes}
use Rattle.tmem_state.specs.Versions.{version_byte}
use Rattle.tmem_state.specs.declared.version.Version.TheVariants.{Two}
use Rattle.tmem_image.proofs.Lengths.{length-names_bytes-le}
use Rattle.tmem_image.proofs.Headers.{header_is, version_is, rest_is}
use Rattle.tmem_image.proofs.spelling.header_of.Goals as goal

pub write_names-requires-clause-room : goal.write_names-requires-clause-room
write_names-requires-clause-room c =
    let are = c.names.ensures.are_registered in
    omega (arith, length-names_bytes-le c.args.state.now.names are.names, are.few, ap (λ ns. length (names_bytes ns)) c.names.ensures.names, c.put-at.ensures.next, c.put-at-2.ensures.next, ap length c.to_le_bytes.ensures, ap length c.to_le_bytes-2.ensures)

pub returns-clause-bytes : goal.returns-clause-bytes
returns-clause-bytes c =
    let long = ap length c.to_le_bytes.ensures in
    let long-2 = ap length c.to_le_bytes-2.ensures in
    let are = c.names.ensures.are_registered in
    let short = length-names_bytes-le c.args.state.now.names are.names in
    let fits : c.write_names.result ≤ 2046 =
    omega (arith, short, are.few, ap (λ ns. length (names_bytes ns)) c.names.ensures.names, c.write_names.ensures.next, c.put-at-2.ensures.next, c.put-at.ensures.next, long, long-2) in
    let ended = version_is (version_byte Two) c.put.result _ c.put.new.into _ refl (ap (λ (m : ℕ). m ∷ []) c.byte.ensures) c.put.ensures.next c.put.ensures.front c.put.ensures.rest in
    header_is Two c.args.generation c.args.state.now c.write_names.new.into c.write_names.result c.names.result.now _ _ _ _ c.put-at.ensures.front c.put-at-2.ensures.front c.write_names.ensures.front
    (rest_is 2046 _ _ _ _ _ c.put-at.result c.put-at-2.result c.write_names.result (omega (arith, c.put-at-2.ensures.next)) (omega (arith, c.write_names.ensures.next)) fits c.put-at.ensures.rest c.put-at-2.ensures.rest c.write_names.ensures.rest ended)
    (omega (arith, c.write_names.ensures.next, c.put-at-2.ensures.next, c.put-at.ensures.next, long, long-2)) c.to_le_bytes.ensures (c.to_le_bytes-2.ensures ∙ ap (little_bytes 8) c.count.ensures) c.names.ensures.names
