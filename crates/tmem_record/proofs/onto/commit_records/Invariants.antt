use Rattle.tmem_record.specs.Onto.{CommitsRecords}
use Rattle.tmem_record.proofs.onto.commit_records.Given as goal

abbrev pub invariant-loop : goal.invariant-loop
invariant-loop l = CommitsRecords l.version l.vars l.counter l.fn.state l.bytes l.rest l.state
