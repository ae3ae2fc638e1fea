use Rattle.std.proofs.Common.{◌∙◌, inl, inr, ℕ, List, refl, ap, sym, subst}
use Rattle.std.specs.Prelude.{All}
use Rattle.std.specs.Io.KnownBytes.{Appends}
use Rattle.tmem_spine.specs.History.{count}
use Rattle.tmem_desk.specs.Asking.{store}
use Rattle.tmem_desk.specs.Desks.{DeskView}
use Rattle.tmem_desk.specs.Held.{desk_view}
use Rattle.tmem_desk.specs.Failing.{PrintsBeginning}
use Rattle.tmem_desk.specs.Serving.{Splits}
use Rattle.tmem_desk.specs.Told.{TellsOnly, TellsWithin}
use Rattle.tmem_desk.proofs.Ends.{no_memory, only_last, unless_memory, within_last}
use Rattle.tmem_desk.proofs.Giving.{ends_told}
use Rattle.tmem_desk.proofs.Losing.{tells_behind, unprinted_want, unprinted_why}
use Rattle.tmem_desk.proofs.desk.Desk.give_last.Goals as goal

pub print-printed-requires : goal.print-printed-requires
print-printed-requires g c = inr (
  c.args.fault,
  subst (All (TellsWithin (count g.N.Naming.name.start c.durable_at_last-durable.new.self.pass.seen) c.args.fault)) (sym (c.deref.ensures.value ∙ c.in-Ok.ensures))
      (within_last c.durable_at_last-durable.result (count g.N.Naming.name.start c.durable_at_last-durable.new.self.pass.seen) c.args.fault c.replace-told.result.items c.durable_at_last-durable.ensures.counts),
)

pub returns-in-Ok-printed-clause-ends : goal.returns-in-Ok-printed-clause-ends
returns-in-Ok-printed-clause-ends g c = ends_told _ c.durable_at_last-durable.result c.replace-told.result.items c.deref.result.now (Appends (g.W.Write.contents c.args.out.now) (g.W.Write.contents c.print-printed.new.out)) c.durable_at_last-durable.ensures.memory (c.deref.ensures.value ∙ c.in-Ok.ensures) c.in-Ok-printed.ensures.printed

pub returns-in-Ok-printed-clause-memory : goal.returns-in-Ok-printed-clause-memory
returns-in-Ok-printed-clause-memory g c = λ wanting. wanting

pub returns-in-Ok-printed-clause-told : goal.returns-in-Ok-printed-clause-told
returns-in-Ok-printed-clause-told g c = λ text held mid over passes is.
    let s = (store g.N.Naming.name.start g.N.StoreNaming.opening g.N.ProgramNaming.program g.N.ServedNaming.arities g.N.ServedNaming.always) in
    unless_memory c.durable_at_last-durable.result c.args.fault (count g.N.Naming.name.start c.durable_at_last-durable.new.self.pass.seen) c.durable_at_last-durable.ensures.none c.durable_at_last-durable.ensures.counts
    (λ durable. (
      passes.texts,
      passes.splits,
      tells_behind s passes.texts mid over (desk_view c.args.self.now) _ c.args.fault c.durable_at_last-durable.result c.replace-told.result.items _ (Appends (g.W.Write.contents c.args.out.now) (g.W.Write.contents c.print-printed.new.out)) passes.passes is
          (ap (λ v. v.items) c.replace-told.ensures.value ∙ ap (λ (v : DeskView). v.told) c.durable_at_last-durable.ensures.desk) c.durable_at_last-durable.ensures.sees (c.deref.ensures.value ∙ c.in-Ok.ensures) c.in-Ok-printed.ensures.printed durable,
    ))

pub returns-in-Err-clause-told : goal.returns-in-Err-clause-told
returns-in-Err-clause-told g c =
    (λ text held mid over passes is.
    let s = (store g.N.Naming.name.start g.N.StoreNaming.opening g.N.ProgramNaming.program g.N.ServedNaming.arities g.N.ServedNaming.always) in
    let prints = (Appends (g.W.Write.contents c.args.out.now) (g.W.Write.contents c.print-printed.new.out)) in
    unprinted_why s (λ (texts : List (List ℕ)). Splits text texts held) mid _ prints passes.texts c.args.fault c.deref.result.now c.in-Err.failure passes.splits
    (λ part.
    unless_memory c.durable_at_last-durable.result c.args.fault (count g.N.Naming.name.start c.durable_at_last-durable.new.self.pass.seen) c.durable_at_last-durable.ensures.none c.durable_at_last-durable.ensures.counts
    (λ durable. (
      no_memory c.durable_at_last-durable.result c.args.fault (count g.N.Naming.name.start c.durable_at_last-durable.new.self.pass.seen) c.durable_at_last-durable.ensures.memory durable,
      tells_behind s passes.texts mid over (desk_view c.args.self.now) _ c.args.fault c.durable_at_last-durable.result c.replace-told.result.items _ (PrintsBeginning prints) passes.passes is
          (ap (λ v. v.items) c.replace-told.ensures.value ∙ ap (λ (v : DeskView). v.told) c.durable_at_last-durable.ensures.desk) c.durable_at_last-durable.ensures.sees (c.deref.ensures.value ∙ c.in-Ok.ensures) part durable,
    )))
    (λ memory. subst (All (TellsOnly c.args.fault)) (sym (c.deref.ensures.value ∙ c.in-Ok.ensures)) (only_last c.durable_at_last-durable.result c.args.fault c.replace-told.result.items (c.durable_at_last-durable.ensures.memory memory)))
    c.in-Err.ensures.err)

pub returns-in-Err-clause-memory : goal.returns-in-Err-clause-memory
returns-in-Err-clause-memory g c = λ wanting.
    (unprinted_want c.args.fault c.deref.result.now (Appends (g.W.Write.contents c.args.out.now) (g.W.Write.contents c.print-printed.new.out)) c.in-Err.failure wanting
    (subst (All (TellsOnly c.args.fault)) (sym (c.deref.ensures.value ∙ c.in-Ok.ensures)) (only_last c.durable_at_last-durable.result c.args.fault c.replace-told.result.items (c.durable_at_last-durable.ensures.memory wanting))) c.in-Err.ensures.err)

pub returns-in-Err-clause-never : goal.returns-in-Err-clause-never
returns-in-Err-clause-never g c = refl

pub returns-in-Err-clause-ends : goal.returns-in-Err-clause-ends
returns-in-Err-clause-ends g c = c.in-Err.ensures.ends

pub returns-in-Ok-printed-clause-never : goal.returns-in-Ok-printed-clause-never
returns-in-Ok-printed-clause-never g c = refl

pub returns-in_default-clause-never : goal.returns-in_default-clause-never
returns-in_default-clause-never g c = refl

pub returns-in_default-clause-memory : goal.returns-in_default-clause-memory
returns-in_default-clause-memory g c = λ _. refl

pub returns-in_default-clause-told : goal.returns-in_default-clause-told
returns-in_default-clause-told g c = λ text held mid over passes is. inl refl
