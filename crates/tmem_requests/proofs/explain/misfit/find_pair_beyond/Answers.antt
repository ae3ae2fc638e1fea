use Rattle.std.proofs.Common.{IfErr, get_or, map, pos, refl}
use Rattle.serde_json.specs.Data.{Data}
use Rattle.tmem_forms.specs.TxForms.{array_of, natural}
use Rattle.tmem_requests.specs.Forms.{pair_form}
use Rattle.tmem_requests.specs.Wrong.{IsTrueOf, store}
use Rattle.tmem_requests.proofs.Each.{read_at}
use Rattle.tmem_requests.proofs.Misfits.{form_there}
use Rattle.tmem_requests.proofs.Wrongs.{handed}
use Rattle.tmem_requests.proofs.explain.misfit.find_pair_beyond.Goals as goal

pub returns-in_err-inside-clause-found : goal.returns-in_err-inside-clause-found
returns-in_err-inside-clause-found c = λ names always.
    let scope = store c.args.vars names always in
    let held : Data = array_of (map pair_form c.args.pairs.now) in
    let pair = get_or c.args.pairs.now c.loop-i.i (0, pos 0) in
    let there = form_there pair_form c.args.pairs.now c.loop-i.i pair c.loop-i-test.true (read_at c.args.pairs.now c.loop-i.i (0, pos 0) c.loop-i-test.true) in
    let found : IfErr c.inside-found.result (λ w. IsTrueOf scope (pair_form pair) w) =
    c.inside-found.ensures.told scope (pair_form pair) (natural pair.0) refl (c.find_in_variable.ensures names always) in
    handed (λ w. IsTrueOf scope held w) c.from_residual.result c.in_err-inside.field-0.0 c.from_residual.ensures.1
    (c.in_err-inside.ensures.told scope held (pair_form pair) there found)
