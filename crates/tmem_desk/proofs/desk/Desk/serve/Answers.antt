use Rattle.std.proofs.Common.{◌++◌, ◌∙◌, sym, ℕ, List}
use Rattle.tmem_desk.specs.Held.{desk_view}
use Rattle.std.proofs.lemmas.Result.{IfOk-from_err}
use Rattle.tmem_desk.proofs.Giving.{on_ok_both, at_success}
use Rattle.std.specs.Io.KnownBytes.{Appends}
use Rattle.tmem_desk.specs.Asking.{store}
use Rattle.tmem_desk.specs.Serving.{RunsPiece, Splits}
use Rattle.tmem_desk.proofs.Losing.{piece_fails, unprinted_texts}
use Rattle.tmem_desk.proofs.desk.Desk.serve.Goals as goal

pub returns-in-Ok-clause-serves : goal.returns-in-Ok-clause-serves
returns-in-Ok-clause-serves g c =
    on_ok_both c.give.result
    (λ printed is text stands. record {
      ran = desk_view c.run.new.self;
      runs = c.in-Ok.ensures.runs (text ++ c.args.piece.now) (at_success c.add.result (sym c.is_err.ensures.value ∙ c.if-is_err.false) c.add.ensures.ok text stands);
      printed = printed;
      is = is;
    })
    c.give.ensures.printed c.give.ensures.desk

pub returns-in-Ok-clause-told : goal.returns-in-Ok-clause-told
returns-in-Ok-clause-told g c =
    unprinted_texts _ (store g.N.Naming.name.start g.N.StoreNaming.opening g.N.ProgramNaming.program g.N.ServedNaming.arities g.N.ServedNaming.always) (λ (text : List ℕ) (texts : List (List ℕ)). Splits (text ++ c.args.piece.now) texts c.run.new.lines)
    (λ (text : List ℕ). RunsPiece (store g.N.Naming.name.start g.N.StoreNaming.opening g.N.ProgramNaming.program g.N.ServedNaming.arities g.N.ServedNaming.always) (text ++ c.args.piece.now) c.run.new.lines (desk_view c.args.self.now)) (desk_view c.args.self.now) (desk_view c.run.new.self) (desk_view c.give.new.self) (Appends (g.W.Write.contents c.args.out.now) (g.W.Write.contents c.give.new.out)) c.give.result
    (λ text stands. c.in-Ok.ensures.runs (text ++ c.args.piece.now) (at_success c.add.result (sym c.is_err.ensures.value ∙ c.if-is_err.false) c.add.ensures.ok text stands)) c.give.ensures.pass c.give.ensures.err

pub returns-in-Err-clause-told : goal.returns-in-Err-clause-told
returns-in-Err-clause-told g c =
    piece_fails c.fail.result (store g.N.Naming.name.start g.N.StoreNaming.opening g.N.ProgramNaming.program g.N.ServedNaming.arities g.N.ServedNaming.always) c.args.piece.now c.run.new.lines c.fail.new.lines (λ (text : List ℕ). RunsPiece (store g.N.Naming.name.start g.N.StoreNaming.opening g.N.ProgramNaming.program g.N.ServedNaming.arities g.N.ServedNaming.always) (text ++ c.args.piece.now) c.fail.new.lines (desk_view c.args.self.now)) (desk_view c.args.self.now) (desk_view c.run.new.self) (desk_view c.fail.new.self) (Appends (g.W.Write.contents c.args.out.now) (g.W.Write.contents c.fail.new.out)) c.in-Err.fault
    (λ text stands. c.in-Err.ensures.err (text ++ c.args.piece.now) (at_success c.add.result (sym c.is_err.ensures.value ∙ c.if-is_err.false) c.add.ensures.ok text stands))
    c.fail.ensures.memory c.fail.ensures.told

pub returns-in-Ok-clause-ends : goal.returns-in-Ok-clause-ends
returns-in-Ok-clause-ends g c = c.give.ensures.ends

pub returns-in-Err-clause-ends : goal.returns-in-Err-clause-ends
returns-in-Err-clause-ends g c = c.fail.ensures.ends

pub returns-in-Err-clause-serves : goal.returns-in-Err-clause-serves
returns-in-Err-clause-serves g c = IfOk-from_err c.fail.result _ c.fail.ensures.never
