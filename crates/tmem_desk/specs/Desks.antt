-- What contracts see of a desk.
use Rattle.std.specs.Prelude.{ℕ, ℤ, List}
use Rattle.tmem_spine.specs.Views.{PassRoleView}
use Rattle.tmem_tree.specs.declared.tx.Tx.{Tx}
use Rattle.tmem_requests.specs.declared.request.RequestBody.{RequestBody}
use Rattle.tmem_desk.specs.declared.counts.AnswerCounts.{AnswerCounts}
use Rattle.tmem_desk.specs.declared.told.Told.{Told}

-- its pass, the requests that wait, each with its id, in the order in which they came, the transactions that are kept, each under its
-- word, what is told and not printed yet, how many lines have come, and what was counted of all that was told
pub record DeskView : Type 0 where
  pub pass : PassRoleView
  pub waiting : List (ℤ × RequestBody)
  pub kept : List (List ℕ × Tx)
  pub told : List Told
  pub lines : ℕ
  pub counts : AnswerCounts
