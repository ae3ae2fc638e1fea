-- The attempt that a proposal is.
use Rattle.std.specs.Prelude.{◌≡◌, pos, replicate}
use Rattle.tmem_tentative.specs.declared.attempt.Attempt.{Attempt}
use Rattle.tmem_tentative.specs.declared.attempt.Ending.TheVariants.{Normal}
use Rattle.tmem_requests.specs.declared.proposal.Proposal.{Proposal}

-- It read, writes, checks and retires what the proposal says, in that order, and ended normally, with registers that are 0.
pub record IsAttemptOf (proposal : Proposal) (attempt : Attempt) : Type 0 where
  pub reads : attempt.reads.entries ≡ proposal.reads.items
  pub ending : attempt.ending ≡ Normal
  pub registers : attempt.registers ≡ replicate 16 (pos 0)
  pub writes : attempt.effect.writes ≡ proposal.writes.items
  pub checks : attempt.effect.names ≡ proposal.checks.items
  pub retires : attempt.effect.retired ≡ proposal.retires.items
