use Rattle.tmem_file.specs.Recorded.{call_events}
use Rattle.tmem_file.proofs.recorded.RecordedFile.write.Goals as goal

pub returns-in-Err-clause-spoilt : goal.returns-in-Err-clause-spoilt
returns-in-Err-clause-spoilt c = rw c.note-in-Err.ensures.events (c.what_stands.ensures (call_events c.args.self.now.calls))
