use Rattle.tmem_record.proofs.NameSetReads.{ReadNameSet}
use Rattle.tmem_record.proofs.codec.read_name_set.Given as goal

abbrev pub invariant-loop : goal.invariant-loop
invariant-loop l = ReadNameSet l.counter l.names l.initial.rest l.rest
