use Rattle.std.proofs.Common.{◌≡◌, ℕ, inr, subst, ap, ◌∙◌, arith}
use Rattle.std.specs.Io.KnownBytes.{Appends}
use Rattle.std.proofs.lemmas.Result.{on_ok_weaker}
use Rattle.tmem_spine.specs.History.{count}
use Rattle.tmem_spine.specs.Views.{PassRoleView, new_pass}
use Rattle.tmem_desk.specs.Asking.{store}
use Rattle.tmem_desk.specs.Desks.{DeskView}
use Rattle.tmem_desk.specs.Held.{desk_view, empty_desk}
use Rattle.tmem_serve.specs.Turns.{ServesInput, StopsInput}
use Rattle.tmem_serve.specs.Stores.{IsWhyStopped, first_line}
use Rattle.tmem_serve.proofs.Turning.{err_more}
use Rattle.tmem_serve.proofs.serving.serve_front.Goals as goal

pub returns-clause-served : goal.returns-clause-served
returns-clause-served g c =
    let s = store g.N.Naming.name.start g.N.StoreNaming.opening g.N.ProgramNaming.program g.N.ServedNaming.arities g.N.ServedNaming.always in
    let names = c.args.served.variables.now in
    let vars = c.args.served.vars in
    let unread = g.I.Read.remaining c.args.input.now in
    let before = g.W.Write.contents c.args.out.now in
    let between = g.W.Write.contents c.print_first.new.out in
    let rest = g.I.Read.remaining c.serve_lines.new.input in
    let after = g.W.Write.contents c.serve_lines.new.out in
    let new = c.in_ok-pass.ensures.pass.0 in
    let opened : c.seen.result ≡ s.start = c.seen.ensures.seen ∙ ap (λ (p : PassRoleView). count s.start p.seen) new ∙ (omega arith) in
    let first = subst (λ (n : ℕ). Appends before between (first_line n vars names)) opened c.in_ok-print_first.ensures.printed in
    let fresh : desk_view c.new-desk.result ≡ empty_desk (new_pass c.in_ok-pass.pass.mark) = c.new-desk.ensures ∙ ap (λ (p : PassRoleView). empty_desk p) new in
    on_ok_weaker c.serve_lines.result
    (λ so. record { between = between; first = first; mark = c.in_ok-pass.pass.mark; input = subst (λ (v : DeskView). ServesInput s v unread rest between after) fresh so })
    c.serve_lines.ensures.served

pub returns-clause-stopped : goal.returns-clause-stopped
returns-clause-stopped g c =
    let s = store g.N.Naming.name.start g.N.StoreNaming.opening g.N.ProgramNaming.program g.N.ServedNaming.arities g.N.ServedNaming.always in
    let names = c.args.served.variables.now in
    let vars = c.args.served.vars in
    let unread = g.I.Read.remaining c.args.input.now in
    let before = g.W.Write.contents c.args.out.now in
    let between = g.W.Write.contents c.print_first.new.out in
    let rest = g.I.Read.remaining c.serve_lines.new.input in
    let after = g.W.Write.contents c.serve_lines.new.out in
    let new = c.in_ok-pass.ensures.pass.0 in
    let opened : c.seen.result ≡ s.start = c.seen.ensures.seen ∙ ap (λ (p : PassRoleView). count s.start p.seen) new ∙ (omega arith) in
    let first = subst (λ (n : ℕ). Appends before between (first_line n vars names)) opened c.in_ok-print_first.ensures.printed in
    let fresh : desk_view c.new-desk.result ≡ empty_desk (new_pass c.in_ok-pass.pass.mark) = c.new-desk.ensures ∙ ap (λ (p : PassRoleView). empty_desk p) new in
    err_more (StopsInput s (desk_view c.new-desk.result) unread rest between after) (IsWhyStopped s vars names unread rest before after) c.serve_lines.result
    (λ f so. inr (inr (record { between = between; first = first; mark = c.in_ok-pass.pass.mark; input = subst (λ (v : DeskView). StopsInput s v unread rest between after f) fresh so })))
    c.serve_lines.ensures.stopped
