use Rattle.std.proofs.Common.{rules}
use Rattle.tmem_journal.proofs.journal.Journal.drop.Goals as goal

pub drop-buffer-requires : goal.drop-buffer-requires
drop-buffer-requires g c = search rules

pub drop-disk-requires : goal.drop-disk-requires
drop-disk-requires g c = search rules

pub drop-doubt-requires : goal.drop-doubt-requires
drop-doubt-requires g c = search rules

pub drop-state-requires : goal.drop-state-requires
drop-state-requires g c = search rules

pub invariant_of-self : goal.invariant_of-self
invariant_of-self g c = search rules
