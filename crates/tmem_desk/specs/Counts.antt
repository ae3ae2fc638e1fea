-- What a desk counts of what it tells.
use Rattle.std.specs.Prelude.{◌+◌, ◌%◌, ◌^◌, ℕ, List, [], ◌∷◌}
use Rattle.tmem_fault.specs.declared.fault.Fault.TheVariants as fault
use Rattle.tmem_tree.specs.declared.settled.Settled.TheVariants as settled
use Rattle.tmem_answers.specs.declared.answer.Answer.{Answer}
use Rattle.tmem_answers.specs.declared.answer.Answer.TheVariants as answer
use Rattle.tmem_desk.specs.declared.counts.AnswerCounts.{AnswerCounts}
use Rattle.tmem_desk.specs.declared.told.Told.{Told}
use Rattle.tmem_desk.specs.declared.told.Told.TheVariants as told

-- one more, by a number of 64 bits
abbrev pub one_more : ℕ → ℕ
one_more n = (n + 1) % 2 ^ 64

-- nothing was told yet
abbrev pub no_counts : AnswerCounts
no_counts = record { committed = 0; refused = 0; conflicts = 0 }

abbrev pub one_committed : AnswerCounts → AnswerCounts
one_committed c = record c { committed = one_more c.committed }

abbrev pub one_refused : AnswerCounts → AnswerCounts
one_refused c = record c { refused = one_more c.refused }

abbrev pub one_conflict : AnswerCounts → AnswerCounts
one_conflict c = record c { conflicts = one_more c.conflicts }

-- after an answer
abbrev pub counts_with : AnswerCounts → Answer → AnswerCounts
counts_with c (answer.Settled (settled.Committed number registers)) = one_committed c
counts_with c (answer.Settled (settled.Refused name)) = one_refused c
counts_with c (answer.Refused name because) = one_refused c
counts_with c (answer.Fault fault.Conflict) = one_conflict c
counts_with c given = c

-- after these were told
abbrev pub counts_after : AnswerCounts → List Told → AnswerCounts
counts_after c [] = c
counts_after c (told.Answer a ∷ more) = counts_after (counts_with c a.answer) more
counts_after c (told.NoRequest n ∷ more) = counts_after c more
