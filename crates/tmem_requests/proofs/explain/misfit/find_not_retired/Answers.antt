use Rattle.std.proofs.Common.{map}
use Rattle.serde_json.specs.Data.{Data, string}
use Rattle.tmem_forms.specs.TxForms.{array_of}
use Rattle.tmem_requests.specs.Wrong.{IsTrueOf, store}
use Rattle.tmem_requests.proofs.Misfits.{form_there}
use Rattle.tmem_requests.proofs.Wrongs.{handed}
use Rattle.tmem_requests.proofs.explain.misfit.find_not_retired.Goals as goal

pub returns-in_err-inside-clause-found : goal.returns-in_err-inside-clause-found
returns-in_err-inside-clause-found c = λ vars.
    let scope = store vars c.args.names.now c.args.always.now in
    let held : Data = array_of (map string c.args.all.now) in
    let there = form_there string c.args.all.now c.loop-i.i c.index-all-i.result c.loop-i-test.true c.index-all-i.is in
    handed (λ w. IsTrueOf scope held w) c.from_residual.result c.in_err-inside.field-0.0 c.from_residual.ensures.1
    (c.in_err-inside.ensures.told scope held (string c.index-all-i.result) there (c.find_in_retired-found.ensures vars))
