use Rattle.tmem_seats.proofs.Refusals.{checkpoint_refusal}
use Rattle.tmem_seats.proofs.journal_seat.JournalSeat.checkpoint.Goals as goal

pub returns-clause-refused : goal.returns-clause-refused
returns-clause-refused g c = checkpoint_refusal c.args.self.now.journal c.checkpoint-written.new.self c.checkpoint-written.result c.checkpoint-written.ensures.checkpointed
