use Rattle.std.proofs.Common.{ap, refl, ◌∙◌}
use Rattle.std.proofs.lemmas.Result.{err_from_is_err_and}
use borrow.Pointer.Called.{made_asks, made_tells}
use Rattle.tmem_builtins.specs.Invariants.{has_no_negative}
use Rattle.tmem_bench.specs.Accounts.{variables_on}
use Rattle.tmem_bench.proofs.Single.{first_of_one}
use Rattle.tmem_bench.proofs.store.with_bank.OwnLists.{own-1, at-1-1}
use Rattle.tmem_bench.proofs.store.with_bank.Goals as goal

pub invariant_over-requires-clause-callable : goal.invariant_over-requires-clause-callable
invariant_over-requires-clause-callable g c = λ values n. made_asks own-1 (own-1.entry at-1-1) at-1-1 refl c.into_dyn_box.ensures.1 (values, tt) tt

pub invariant_over-requires-clause-stated : goal.invariant_over-requires-clause-stated
invariant_over-requires-clause-stated g c = ∣ (has_no_negative, λ values answer n post. made_tells own-1 (own-1.entry at-1-1) at-1-1 refl c.into_dyn_box.ensures.1 (values, tt) answer post) ∣₁

pub returns-in-Store : goal.returns-in-Store
returns-in-Store g c = rw c.in-Store.is c.open.ensures

pub returns-in-Core : goal.returns-in-Core
returns-in-Core g c = rw c.in-Core.is c.run_on_core.ensures

pub open-requires-clause-vars : goal.open-requires-clause-vars
open-requires-clause-vars g c κs within = c.in_ok-table.ensures.vars

pub run_on_core-requires-clause-vars : goal.run_on_core-requires-clause-vars
run_on_core-requires-clause-vars g c = c.in_ok-table.ensures.vars

pub returns-in_err-table : goal.returns-in_err-table
returns-in_err-table g c = rw (err_from_is_err_and c.from_residual-in_err-table.result c.from_residual-in_err-table.ensures.1).1 tt

pub open-requires-clause-stated : goal.open-requires-clause-stated
open-requires-clause-stated g c κs within =
    rw (ap (λ v. v.items) c.in_ok-table.ensures.entries ∙ c.in_ok-vec.ensures.items)
    (λ k d below. rw (first_of_one k below) (record {
      over = c.in_ok-solvent-2.ensures.footprint ∙ (c.footprint.ensures ∙ ap (λ on. variables_on on) c.in-Store.is);
      answers = λ values answer n post. made_tells own-1 (own-1.entry at-1-1) at-1-1 refl c.into_dyn_box.ensures.1 (values, tt) answer (rw c.in_ok-solvent-2.ensures.test at post);
    }))

pub run_on_core-requires-clause-stated : goal.run_on_core-requires-clause-stated
run_on_core-requires-clause-stated g c =
    rw (ap (λ v. v.items) c.in_ok-table.ensures.entries ∙ c.in_ok-vec.ensures.items)
    (λ k d below. rw (first_of_one k below) (record {
      over = c.in_ok-solvent-2.ensures.footprint ∙ (c.footprint.ensures ∙ ap (λ on. variables_on on) c.in-Core.is);
      answers = λ values answer n post. made_tells own-1 (own-1.entry at-1-1) at-1-1 refl c.into_dyn_box.ensures.1 (values, tt) answer (rw c.in_ok-solvent-2.ensures.test at post);
    }))
