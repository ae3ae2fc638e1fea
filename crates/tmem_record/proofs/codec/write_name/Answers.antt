use Rattle.std.proofs.Common.{◌∙◌, refl, arith}
use Rattle.tmem_record.proofs.CodecWrites.{name_alone, drop_further}
use Rattle.tmem_record.proofs.codec.write_name.Goals as goal

pub returns-clause-bytes : goal.returns-clause-bytes
returns-clause-bytes c = name_alone _ _ _ c.args.name.now _ c.put-at.ensures.front c.put.ensures.front refl c.as_bytes-letters.ensures.bytes

pub returns-clause-rest : goal.returns-clause-rest
returns-clause-rest c = c.put.ensures.rest ∙ drop_further c.put-at.result c.put.result _ _ (omega (arith, c.put.ensures.next)) c.put-at.ensures.rest
