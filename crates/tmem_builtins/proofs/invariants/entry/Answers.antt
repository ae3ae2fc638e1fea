use Rattle.std.proofs.Common.{inl, ap, ◌∙◌}
use Rattle.std.proofs.lemmas.Result.{IfOk-weaker}
use Rattle.tmem_fault.specs.declared.fault.Fault.TheVariants.{Memory}
use Rattle.tmem_builtins.proofs.Tables.{one_error}
use Rattle.tmem_builtins.proofs.invariants.entry.Goals as goal

pub new-requires-clause-callable : goal.new-requires-clause-callable
new-requires-clause-callable g c = rw (c.in_ok-from_array.ensures.items) c.requires.callable

pub new-requires-clause-stated : goal.new-requires-clause-stated
new-requires-clause-stated g c = rw (c.in_ok-from_array.ensures.items) c.requires.stated

pub returns-clause-name : goal.returns-clause-name
returns-clause-name g c = c.new.ensures.name

pub returns-clause-footprint : goal.returns-clause-footprint
returns-clause-footprint g c = IfOk-weaker c.new.result _ _ (λ invariant is. ap (λ v. v.items) is ∙ c.in_ok-from_array.ensures.items) c.new.ensures.footprint

pub returns-clause-test : goal.returns-clause-test
returns-clause-test g c = c.new.ensures.test

pub returns-clause-refused : goal.returns-clause-refused
returns-clause-refused g c = one_error c.new.result Memory (inl (c.new.ensures.ok.1 (rw (c.in_ok-from_array.ensures.items) c.requires.footprint)))
