use Rattle.tmem_record.proofs.CodecReads.{ReadNames}
use Rattle.tmem_record.proofs.codec.some_names_of.Given as goal

abbrev pub invariant-loop : goal.invariant-loop
invariant-loop l = ReadNames l.counter l.names l.initial.rest l.rest
