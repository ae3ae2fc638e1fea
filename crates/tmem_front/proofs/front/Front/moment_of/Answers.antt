use Rattle.std.proofs.Common.{ap, sym, ◌∙◌, rules}
use Rattle.std.proofs.lemmas.Result.{err_from_is_err_and}
use Rattle.tmem_spine.specs.History.{count}
use Rattle.tmem_spine.specs.Views.{PassRoleView}
use Rattle.tmem_front.proofs.Again.{knows_still}
use Rattle.tmem_front.proofs.front.Front.moment_of.Goals as goal

pub returns-in_err-values : goal.returns-in_err-values
returns-in_err-values g c =
    let handed = err_from_is_err_and c.from_residual.result c.from_residual.ensures.1 in
    rw handed.1 (record { count = tt; values = tt; has = tt; knows = knows_still c.args.pass.now; memory = handed.2 })

pub returns-in_err-has : goal.returns-in_err-has
returns-in_err-has g c =
    let handed = err_from_is_err_and c.from_residual-in_err-has.result c.from_residual-in_err-has.ensures.1 in
    rw handed.1 (record { count = tt; values = tt; has = tt; knows = knows_still c.args.pass.now; memory = handed.2 })

pub returns-in_err-peek_all : goal.returns-in_err-peek_all
returns-in_err-peek_all g c =
    let handed = err_from_is_err_and c.from_residual-in_err-peek_all.result c.from_residual-in_err-peek_all.ensures.1 in
    rw handed.1 (record { count = tt; values = tt; has = tt; knows = search rules; memory = handed.2 ∙ c.in_err-peek_all.ensures.refused })

pub returns-in_err-push_registered : goal.returns-in_err-push_registered
returns-in_err-push_registered g c =
    let handed = err_from_is_err_and c.from_residual-in_err-push_registered.result c.from_residual-in_err-push_registered.ensures.1 in
    rw handed.1 (record { count = tt; values = tt; has = tt; knows = search rules; memory = handed.2 })

pub returns-clause-count : goal.returns-clause-count
returns-clause-count g c = c.meet-count.ensures.count ∙ ap (λ (v : PassRoleView). count g.N.Naming.name.start v.known) (sym c.meet-count.ensures.pass)
