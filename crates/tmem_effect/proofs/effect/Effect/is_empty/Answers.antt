use Rattle.tmem_effect.proofs.effect.Effect.is_empty.Goals as goal

pub returns-else-is_empty-clause-is_effect : goal.returns-else-is_empty-clause-is_effect
returns-else-is_empty-clause-is_effect c = λ vars within apart. record { writes = c.as_slice-writes.ensures.are_writes; within = within; names = c.as_slice-names.ensures.are_checks; retired = c.as_slice-retired.ensures.are_checks; apart = apart }

pub returns-then-is_empty-2-clause-is_effect : goal.returns-then-is_empty-2-clause-is_effect
returns-then-is_empty-2-clause-is_effect c = λ vars within apart. record { writes = c.as_slice-writes.ensures.are_writes; within = within; names = c.as_slice-names.ensures.are_checks; retired = c.as_slice-retired.ensures.are_checks; apart = apart }

pub returns-else-is_empty-2-clause-is_effect : goal.returns-else-is_empty-2-clause-is_effect
returns-else-is_empty-2-clause-is_effect c = λ vars within apart. record { writes = c.as_slice-writes.ensures.are_writes; within = within; names = c.as_slice-names.ensures.are_checks; retired = c.as_slice-retired.ensures.are_checks; apart = apart }
