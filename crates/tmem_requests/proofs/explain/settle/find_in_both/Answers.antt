use Rattle.std.proofs.Common.{rules}
use Rattle.serde_json.specs.View.{view}
use Rattle.tmem_requests.specs.Wrong.{part}
use Rattle.tmem_requests.proofs.explain.settle.find_in_both.Goals as goal

pub returns-in-Ok-true : goal.returns-in-Ok-true
returns-in-Ok-true c = tt

pub returns-in-Ok-false : goal.returns-in-Ok-false
returns-in-Ok-false c = c.here.ensures part (view c.args.body.now) (search rules)

pub returns-in-Err : goal.returns-in-Err
returns-in-Err c = c.here-in-Err.ensures part (view c.args.body.now) tt
