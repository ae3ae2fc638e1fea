use Rattle.tmem_record.proofs.CodecReads.{ReadRecords}
use Rattle.tmem_record.proofs.codec.records_of.Given as goal

abbrev pub invariant-loop : goal.invariant-loop
invariant-loop l = ReadRecords l.version l.vars l.counter l.records l.bytes l.rest
