use Rattle.std.proofs.Common.{sym, ◌∙◌}
use Rattle.tmem_core.proofs.SettleAnswers.{settles, committing-none, refused_with}
use Rattle.tmem_core.proofs.core_state.Core.decide.Goals as goal

pub returns-in-Normal-clause-settles : goal.returns-in-Normal-clause-settles
returns-in-Normal-clause-settles g c =
    let a = c.args.attempt.now in
    settles c.args.self.now c.settle_normal.new.self a _ c.if-self.false (sym c.has_changed.ensures ∙ c.if-has_changed.false) (λ p are. rw c.in-Normal.is (c.settle_normal.ensures.answer p are a.registers)) (refused_with _ a.registers c.settle_normal.ensures.refused) (c.settle_normal.ensures.view a.registers)

pub returns-in-Retry-clause-settles : goal.returns-in-Retry-clause-settles
returns-in-Retry-clause-settles g c =
    settles c.args.self.now c.args.self.now c.args.attempt.now _ c.if-self.false (sym c.has_changed.ensures ∙ c.if-has_changed.false) (λ p are. rw c.in-Retry.is) tt (committing-none _)

pub returns-in-Abort-clause-settles : goal.returns-in-Abort-clause-settles
returns-in-Abort-clause-settles g c =
    settles c.args.self.now c.args.self.now c.args.attempt.now _ c.if-self.false (sym c.has_changed.ensures ∙ c.if-has_changed.false) (λ p are. rw c.in-Abort.is) tt (committing-none _)

pub returns-in-Broken-clause-settles : goal.returns-in-Broken-clause-settles
returns-in-Broken-clause-settles g c =
    settles c.args.self.now c.args.self.now c.args.attempt.now _ c.if-self.false (sym c.has_changed.ensures ∙ c.if-has_changed.false) (λ p are. rw c.in-Broken.is) tt (committing-none _)
