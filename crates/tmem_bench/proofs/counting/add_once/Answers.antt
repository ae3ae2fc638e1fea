use Rattle.tmem_bench.proofs.Added.{adds_held}
use Rattle.tmem_bench.proofs.counting.add_once.Goals as goal

pub returns : goal.returns
returns g c =
    let start = g.N.Naming.name.start in
    adds_held start g.N.StoreNaming.opening g.N.ProgramNaming.program c.args.plan.now.tree c.args.pass.now c.commit_durable.new.pass c.commit_durable.result
    c.in_ok-settled.settled c.is_commit.result c.in_ok-settled.was c.is_commit.ensures c.commit_durable.ensures.settled
