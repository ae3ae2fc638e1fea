use Rattle.std.proofs.Common.{◌∙◌, refl, arith}
use Rattle.tmem_record.proofs.CodecWrites.{names_put, length-names, drop_further}
use Rattle.tmem_record.proofs.codec.write_names.Goals as goal

pub put-at-requires : goal.put-at-requires
put-at-requires c = omega (arith, c.requires.room, length-names c.args.names.now)

pub put_names-requires : goal.put_names-requires
put_names-requires c = omega (arith, c.requires.room, length-names c.args.names.now, c.put-at.ensures.next)

pub returns-clause-next : goal.returns-clause-next
returns-clause-next c = omega (arith, length-names c.args.names.now, c.put-at.ensures.next, c.put_names.ensures.next)

pub returns-clause-front : goal.returns-clause-front
returns-clause-front c = names_put c.args.names.now _ _ _ _ c.put-at.ensures.front c.put_names.ensures.front refl

pub returns-clause-rest : goal.returns-clause-rest
returns-clause-rest c = c.put_names.ensures.rest ∙ drop_further c.put-at.result c.put_names.result _ _ (omega (arith, c.put_names.ensures.next)) c.put-at.ensures.rest
