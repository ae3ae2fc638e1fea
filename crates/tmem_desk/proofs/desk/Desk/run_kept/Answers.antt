use Rattle.std.proofs.Common.{ℤ, w64, refl, sym, ◌∙◌, subst, inl}
use Rattle.std.proofs.lemmas.Int.{to_z-of_z}
use Rattle.std.proofs.lemmas.Result.{err_from_is_err_and, on_ok_weaker}
use Rattle.tmem_desk.specs.Asking.{store}
use Rattle.tmem_desk.specs.Held.{desk_view}
use Rattle.tmem_desk.specs.Keeping.{kept_under}
use Rattle.tmem_desk.specs.Serving.{Runs}
use Rattle.tmem_desk.proofs.Lists.{runs_none, runs_few_at, runs_copy_at}
use Rattle.tmem_fault.specs.declared.fault.Fault.TheVariants.{Memory}
use Rattle.tmem_desk.proofs.Losing.{handed, memory_only}
use Rattle.tmem_desk.proofs.desk.Desk.run_kept.Goals as goal

pub returns-in_default-clause-ok : goal.returns-in_default-clause-ok
returns-in_default-clause-ok g c =
    on_ok_weaker c.tell.result
    (λ is.
    subst (λ (id : ℤ). Runs (store g.N.Naming.name.start g.N.StoreNaming.opening g.N.ProgramNaming.program g.N.ServedNaming.arities g.N.ServedNaming.always) id c.args.numbers.now (kept_under c.args.word.now (desk_view c.args.self.now).kept) (desk_view c.args.self.now) (desk_view c.tell.new.self)) (to_z-of_z w64 c.args.id c.ranges.id)
    (runs_none _ (store g.N.Naming.name.start g.N.StoreNaming.opening g.N.ProgramNaming.program g.N.ServedNaming.arities g.N.ServedNaming.always) _ c.args.numbers.now c.args.word.now c.args.self.now.kept.items (desk_view c.args.self.now) (desk_view c.tell.new.self) refl (sym c.index_kept.ensures ∙ c.in_default.is) is))
    c.tell.ensures.ok

pub returns-then-not-begins_with_puts-clause-ok : goal.returns-then-not-begins_with_puts-clause-ok
returns-then-not-begins_with_puts-clause-ok g c =
    on_ok_weaker c.tell-then-not-begins_with_puts.result
    (runs_few_at _ (store g.N.Naming.name.start g.N.StoreNaming.opening g.N.ProgramNaming.program g.N.ServedNaming.arities g.N.ServedNaming.always) c.args.id _ c.args.numbers.now c.args.word.now c.args.self.now.kept.items c.in-Some.index c.index.result.now c.tree-tree.result.now c.begins_with_puts.result (desk_view c.args.self.now) (desk_view c.tell-then-not-begins_with_puts.new.self) (to_z-of_z w64 c.args.id c.ranges.id) refl
    (sym c.index_kept.ensures ∙ c.in-Some.is) c.index.ensures c.tree-tree.ensures.tree c.begins_with_puts.ensures c.if-not-begins_with_puts.true)
    c.tell-then-not-begins_with_puts.ensures.ok

pub returns-clause-ok : goal.returns-clause-ok
returns-clause-ok g c =
    on_ok_weaker c.run_copy.result
    (runs_copy_at _ (store g.N.Naming.name.start g.N.StoreNaming.opening g.N.ProgramNaming.program g.N.ServedNaming.arities g.N.ServedNaming.always) c.args.id _ c.args.numbers.now c.args.word.now c.args.self.now.kept.items c.in-Some.index c.index.result.now c.tree-tree.result.now c.in_ok-copy.copy c.begins_with_puts.result (desk_view c.args.self.now) (desk_view c.run_copy.new.self) (to_z-of_z w64 c.args.id c.ranges.id) refl
    (sym c.index_kept.ensures ∙ c.in-Some.is) c.index.ensures c.tree-tree.ensures.tree c.begins_with_puts.ensures c.if-not-begins_with_puts.false c.in_ok-copy.ensures)
    c.run_copy.ensures.ok

pub returns-in_default-clause-err : goal.returns-in_default-clause-err
returns-in_default-clause-err g c = memory_only _ c.tell.result c.tell.ensures.err

pub returns-then-not-begins_with_puts-clause-err : goal.returns-then-not-begins_with_puts-clause-err
returns-then-not-begins_with_puts-clause-err g c = memory_only _ c.tell-then-not-begins_with_puts.result c.tell-then-not-begins_with_puts.ensures.err

pub returns-in_err-copy-clause-err : goal.returns-in_err-copy-clause-err
returns-in_err-copy-clause-err g c = handed c.from_residual.result Memory _ c.from_residual.ensures.1 (inl refl)

pub returns-in_err-copy-clause-ok : goal.returns-in_err-copy-clause-ok
returns-in_err-copy-clause-ok g c = rw (err_from_is_err_and c.from_residual.result c.from_residual.ensures.1).1 tt
