use Rattle.std.proofs.Common.{get_or, map}
use Rattle.serde_json.specs.Data.{Data}
use Rattle.tmem_forms.specs.TxForms.{array_of, natural}
use Rattle.tmem_requests.specs.Wrong.{IsTrueOf, store}
use Rattle.tmem_requests.proofs.Each.{read_at}
use Rattle.tmem_requests.proofs.Misfits.{form_there}
use Rattle.tmem_requests.proofs.Wrongs.{handed}
use Rattle.tmem_requests.proofs.explain.misfit.find_beyond.Goals as goal

pub returns-in_err-inside : goal.returns-in_err-inside
returns-in_err-inside c = λ names always.
    let scope = store c.args.vars names always in
    let held : Data = array_of (map natural c.args.all.now) in
    let var = get_or c.args.all.now c.loop-i.i 0 in
    let there = form_there natural c.args.all.now c.loop-i.i var c.loop-i-test.true (read_at c.args.all.now c.loop-i.i 0 c.loop-i-test.true) in
    handed (λ w. IsTrueOf scope held w) c.from_residual.result c.in_err-inside.field-0.0 c.from_residual.ensures.1
    (c.in_err-inside.ensures.told scope held (natural var) there (c.find_in_variable.ensures names always))
