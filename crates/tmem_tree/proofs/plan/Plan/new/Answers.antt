use Rattle.std.proofs.Common.{◌≡◌, get_or, refl, sym, subst}
use Rattle.std.specs.Option.{IsSome}
use Rattle.std.proofs.lemmas.List.Elements.{All-contains}
use Rattle.tmem_invariants.specs.TableNames.{AreBelow}
use Rattle.tmem_tree.specs.declared.signature.Signature.{Signature}
use Rattle.tmem_tree.specs.Signatures.{names_of}
use Rattle.tmem_tree.proofs.Fewer.{has_signatures}
use Rattle.tmem_tree.proofs.Plans.{within_limits, none_beyond, fits_steps, fits_names}
use Rattle.tmem_tree.proofs.plan.Plan.new.Goals as goal

pub of-requires-clause-limits : goal.of-requires-clause-limits
of-requires-clause-limits g c =
    within_limits _ _ _ _ (c.pay_for_all.ensures.fine.0 (subst IsSome (sym c.in-Some.is) refl))

pub of-requires-clause-covered : goal.of-requires-clause-covered
of-requires-clause-covered g c =
    has_signatures (names_of c.args.signatures.now) c.args.tx (fits_names _ _ _ _ (c.pay_for_all.ensures.fine.0 (subst IsSome (sym c.in-Some.is) refl)))

pub returns-in-Some-clause-fine : goal.returns-in-Some-clause-fine
returns-in-Some-clause-fine g c = c.pay_for_all.ensures.fine.0 (subst IsSome (sym c.in-Some.is) refl)

pub returns-in-Some-clause-steps : goal.returns-in-Some-clause-steps
returns-in-Some-clause-steps g c =
    fits_steps _ _ _ _ (c.pay_for_all.ensures.fine.0 (subst IsSome (sym c.in-Some.is) refl))

pub returns-in-Some-clause-names : goal.returns-in-Some-clause-names
returns-in-Some-clause-names g c =
    fits_names _ _ _ _ (c.pay_for_all.ensures.fine.0 (subst IsSome (sym c.in-Some.is) refl))

pub returns-in-Some-clause-variables : goal.returns-in-Some-clause-variables
returns-in-Some-clause-variables g c within = record {
  named = rw c.of.ensures.plan (none_beyond _ _ _ _ (c.pay_for_all.ensures.fine.0 (subst IsSome (sym c.in-Some.is) refl)));
  footprints = λ k d below. All-contains (λ (signature : Signature). AreBelow c.args.vars signature.footprint) c.args.signatures.now (get_or c.of.result.signatures k d) within (c.of.ensures.among k d below);
}

pub returns-in-Some-clause-signatures : goal.returns-in-Some-clause-signatures
returns-in-Some-clause-signatures g c = λ tests meant. λ k d below.
    All-contains (λ (signature : Signature). signature.footprint ≡ tests.footprint signature.name) c.args.signatures.now (get_or c.of.result.signatures k d) meant (c.of.ensures.among k d below)
