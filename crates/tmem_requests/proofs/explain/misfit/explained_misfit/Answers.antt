use Rattle.tmem_requests.specs.Wrong.{store}
use Rattle.tmem_requests.proofs.explain.misfit.explained_misfit.Goals as goal

pub returns-in-Err : goal.returns-in-Err
returns-in-Err c = λ id d is.
    c.into_refusal-in-Err.ensures (store c.args.vars c.args.names.now c.args.always.now) d (c.in-Err.ensures id d is)
