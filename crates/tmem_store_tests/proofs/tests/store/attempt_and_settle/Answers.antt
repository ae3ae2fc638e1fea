use Rattle.tmem_store_tests.proofs.tests.store.attempt_and_settle.Goals as goal

pub attempt-requires-clause-steps : goal.attempt-requires-clause-steps
attempt-requires-clause-steps g c = c.requires.steps

pub attempt-requires-clause-variables : goal.attempt-requires-clause-variables
attempt-requires-clause-variables g c = c.requires.variables

pub attempt-requires-clause-names : goal.attempt-requires-clause-names
attempt-requires-clause-names g c = c.requires.names

pub attempt-requires-clause-signatures : goal.attempt-requires-clause-signatures
attempt-requires-clause-signatures g c = c.requires.signatures
