use Rattle.serde_json.specs.View.{view}
use Rattle.tmem_requests.specs.Wrong.{IsTrueOf, whole}
use Rattle.tmem_requests.proofs.Wrongs.{handed}
use Rattle.tmem_requests.proofs.explain.find_wrong.Goals as goal

pub returns-in_err-find_in_id : goal.returns-in_err-find_in_id
returns-in_err-find_in_id c = handed (λ w. IsTrueOf whole (view c.args.value.now) w) c.from_residual.result c.in_err-find_in_id.field-0.0 c.from_residual.ensures.1 c.in_err-find_in_id.ensures

pub returns-in_err-find_in_asked : goal.returns-in_err-find_in_asked
returns-in_err-find_in_asked c = handed (λ w. IsTrueOf whole (view c.args.value.now) w) c.from_residual-in_err-find_in_asked.result c.in_err-find_in_asked.field-0.0 c.from_residual-in_err-find_in_asked.ensures.1 c.in_err-find_in_asked.ensures
