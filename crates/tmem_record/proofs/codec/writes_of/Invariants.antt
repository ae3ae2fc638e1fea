use Rattle.tmem_record.proofs.CodecReads.{ReadWrites}
use Rattle.tmem_record.proofs.codec.writes_of.Given as goal

abbrev pub invariant-loop : goal.invariant-loop
invariant-loop l = ReadWrites l.vars l.counter l.writes l.initial.rest l.rest
