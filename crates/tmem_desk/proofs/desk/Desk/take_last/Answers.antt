use Rattle.std.proofs.Common.{◌∙◌, ℕ, List, inl, inr, refl, sym, subst}
use Rattle.std.proofs.lemmas.Result.{on_ok_weaker}
use Rattle.tmem_desk.specs.Asking.{store}
use Rattle.tmem_desk.specs.Held.{desk_view}
use Rattle.tmem_desk.specs.Serving.{TakesShort}
use Rattle.tmem_desk.proofs.Taking.{short_text, long_some, long_text}
use Rattle.tmem_desk.proofs.Losing.{each_text, memory_texts, rest_answered}
use Rattle.tmem_desk.proofs.desk.Desk.take_last.Goals as goal

pub returns-in-Line-clause-ok : goal.returns-in-Line-clause-ok
returns-in-Line-clause-ok g c =
    on_ok_weaker c.take_line.result
    (λ taken text stands.
    let last = c.cut_last.ensures.line c.in-Line.is text stands in
    inr (
      last.2,
      short_text (store g.N.Naming.name.start g.N.StoreNaming.opening g.N.ProgramNaming.program g.N.ServedNaming.arities g.N.ServedNaming.always) text (desk_view c.args.self.now) (desk_view c.take_line.new.self) last.1
          (subst (λ (t : List ℕ). TakesShort (store g.N.Naming.name.start g.N.StoreNaming.opening g.N.ProgramNaming.program g.N.ServedNaming.arities g.N.ServedNaming.always) t (desk_view c.args.self.now) (desk_view c.take_line.new.self)) (c.line.ensures ∙ sym last.0) taken),
    ))
    c.take_line.ensures.ok

pub returns-in-TooLong-clause-ok : goal.returns-in-TooLong-clause-ok
returns-in-TooLong-clause-ok g c =
    on_ok_weaker c.take_long_line.result
    (λ refuses text stands. inr (long_some text (c.cut_last.ensures.long c.in-TooLong.is text stands), long_text (store g.N.Naming.name.start g.N.StoreNaming.opening g.N.ProgramNaming.program g.N.ServedNaming.arities g.N.ServedNaming.always) text (desk_view c.args.self.now) (desk_view c.take_long_line.new.self) (c.cut_last.ensures.long c.in-TooLong.is text stands) refuses))
    c.take_long_line.ensures.ok

pub returns-in-Nothing-clause-ok : goal.returns-in-Nothing-clause-ok
returns-in-Nothing-clause-ok g c text stands = inl (c.cut_last.ensures.nothing c.in-Nothing.is text stands, refl)

pub returns-in-Line-clause-err : goal.returns-in-Line-clause-err
returns-in-Line-clause-err g c =
    each_text c.take_line.result
    (λ text stands a.
    let last = c.cut_last.ensures.line c.in-Line.is text stands in
    rest_answered (store g.N.Naming.name.start g.N.StoreNaming.opening g.N.ProgramNaming.program g.N.ServedNaming.arities g.N.ServedNaming.always) text c.line.result.now (desk_view c.args.self.now) (desk_view c.take_line.new.self) (last.0 ∙ sym c.line.ensures) last.1 last.2 a)
    c.take_line.ensures.err

pub returns-in-TooLong-clause-err : goal.returns-in-TooLong-clause-err
returns-in-TooLong-clause-err g c = memory_texts _ _ c.take_long_line.result c.take_long_line.ensures.err
