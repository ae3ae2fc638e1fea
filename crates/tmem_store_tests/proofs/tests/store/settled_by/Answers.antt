use Rattle.tmem_store_tests.proofs.tests.store.settled_by.Goals as goal

pub attempt_and_settle-requires-clause-steps : goal.attempt_and_settle-requires-clause-steps
attempt_and_settle-requires-clause-steps g c = c.requires.steps

pub attempt_and_settle-requires-clause-variables : goal.attempt_and_settle-requires-clause-variables
attempt_and_settle-requires-clause-variables g c = c.requires.variables

pub attempt_and_settle-requires-clause-names : goal.attempt_and_settle-requires-clause-names
attempt_and_settle-requires-clause-names g c = c.requires.names

pub attempt_and_settle-requires-clause-signatures : goal.attempt_and_settle-requires-clause-signatures
attempt_and_settle-requires-clause-signatures g c = c.requires.signatures

pub try_atomically-requires-clause-steps : goal.try_atomically-requires-clause-steps
try_atomically-requires-clause-steps g c = c.requires.steps

pub try_atomically-requires-clause-variables : goal.try_atomically-requires-clause-variables
try_atomically-requires-clause-variables g c = c.requires.variables

pub try_atomically-requires-clause-names : goal.try_atomically-requires-clause-names
try_atomically-requires-clause-names g c = c.requires.names

pub try_atomically-requires-clause-signatures : goal.try_atomically-requires-clause-signatures
try_atomically-requires-clause-signatures g c = c.requires.signatures

pub atomically-requires-clause-steps : goal.atomically-requires-clause-steps
atomically-requires-clause-steps g c = c.requires.steps

pub atomically-requires-clause-variables : goal.atomically-requires-clause-variables
atomically-requires-clause-variables g c = c.requires.variables

pub atomically-requires-clause-names : goal.atomically-requires-clause-names
atomically-requires-clause-names g c = c.requires.names

pub atomically-requires-clause-signatures : goal.atomically-requires-clause-signatures
atomically-requires-clause-signatures g c = c.requires.signatures

pub atomically_within-requires-clause-steps : goal.atomically_within-requires-clause-steps
atomically_within-requires-clause-steps g c = c.requires.steps

pub atomically_within-requires-clause-variables : goal.atomically_within-requires-clause-variables
atomically_within-requires-clause-variables g c = c.requires.variables

pub atomically_within-requires-clause-names : goal.atomically_within-requires-clause-names
atomically_within-requires-clause-names g c = c.requires.names

pub atomically_within-requires-clause-signatures : goal.atomically_within-requires-clause-signatures
atomically_within-requires-clause-signatures g c = c.requires.signatures

pub atomically_with_room-requires-clause-steps : goal.atomically_with_room-requires-clause-steps
atomically_with_room-requires-clause-steps g c = c.requires.steps

pub atomically_with_room-requires-clause-variables : goal.atomically_with_room-requires-clause-variables
atomically_with_room-requires-clause-variables g c = c.requires.variables

pub atomically_with_room-requires-clause-names : goal.atomically_with_room-requires-clause-names
atomically_with_room-requires-clause-names g c = c.requires.names

pub atomically_with_room-requires-clause-signatures : goal.atomically_with_room-requires-clause-signatures
atomically_with_room-requires-clause-signatures g c = c.requires.signatures

pub commit_durable-requires-clause-steps : goal.commit_durable-requires-clause-steps
commit_durable-requires-clause-steps g c = c.requires.steps

pub commit_durable-requires-clause-variables : goal.commit_durable-requires-clause-variables
commit_durable-requires-clause-variables g c = c.requires.variables

pub commit_durable-requires-clause-names : goal.commit_durable-requires-clause-names
commit_durable-requires-clause-names g c = c.requires.names

pub commit_durable-requires-clause-signatures : goal.commit_durable-requires-clause-signatures
commit_durable-requires-clause-signatures g c = c.requires.signatures
