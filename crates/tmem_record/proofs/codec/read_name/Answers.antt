use Rattle.std.proofs.Common.{rules}
use Rattle.tmem_effect.specs.Prefix.{IsPrefix}
use Rattle.tmem_record.specs.Spelling.{name_bytes}
use Rattle.tmem_record.proofs.CodecReads.{name_begins, no_name_begins}
use Rattle.tmem_record.proofs.codec.read_name.Goals as goal

pub returns-in-Some-clause-found : goal.returns-in-Some-clause-found
returns-in-Some-clause-found c =
    let begins : IsPrefix (name_bytes c.in-Some.name) c.args.bytes.now = name_begins c.in-Some.name c.args.bytes.now _ c.in-Some.ensures.found in
    search (rules, begins)

pub returns-in-None-clause-none : goal.returns-in-None-clause-none
returns-in-None-clause-none c = no_name_begins c.args.bytes.now c.in-None.ensures.none
