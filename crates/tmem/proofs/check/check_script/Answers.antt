use Rattle.std.proofs.Common.{◌≡◌, subst, inl, inr, arith}
use Rattle.std.specs.Prelude.{◌⊎◌}
use Rattle.std.proofs.lemmas.Result.{IfOk-weaker, IfErr-weaker}
use Rattle.tmem_fault.specs.declared.fault.Fault.TheVariants as fault
use Rattle.tmem_script.specs.Statuses.{status_of}
use Rattle.tmem_script.specs.declared.failure.ProgramFailure.{ProgramFailure}
use Rattle.tmem_script.specs.declared.failure.ProgramFailure.TheVariants as failure
use Rattle.tmem.proofs.check.check_script.Goals as goal

-- neither of these has status 3
not_three : (f : ProgramFailure) → (f ≡ failure.Refused fault.Memory) ⊎ (f ≡ failure.Output) → status_of f ≡ 3 → ⊥
not_three f (inl is) three =
    let same : status_of (failure.Refused fault.Memory) ≡ 3 = subst (λ (x : ProgramFailure). status_of x ≡ 3) is three in
    omega (arith, same)
not_three f (inr is) three =
    let same : status_of failure.Output ≡ 3 = subst (λ (x : ProgramFailure). status_of x ≡ 3) is three in
    omega (arith, same)

pub returns-clause-fine : goal.returns-clause-fine
returns-clause-fine g c = IfOk-weaker c.check_text.result _ _ (λ fine so yes. ((c.deref.result.now, (so yes).0), (so yes).1)) c.check_text.ensures.fine

pub returns-clause-flawed : goal.returns-clause-flawed
returns-clause-flawed g c = IfOk-weaker c.check_text.result _ _ (λ fine so no. (c.deref.result.now, so no)) c.check_text.ensures.flawed

pub returns-clause-failed : goal.returns-clause-failed
returns-clause-failed g c = IfErr-weaker c.check_text.result _ _ (λ f is. inr is) c.check_text.ensures.failed

pub returns-clause-unread : goal.returns-clause-unread
returns-clause-unread g c = IfErr-weaker c.check_text.result _ _ (λ f is three. absurd (not_three f is three)) c.check_text.ensures.failed
