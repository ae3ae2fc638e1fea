use Rattle.std.proofs.Common.{codes, subst}
use Rattle.clap.specs.Walk.{one_of}
use Rattle.tmem_args.specs.CommandLine.{IsFlagOf}
use Rattle.tmem_args.proofs.Asking.{given}
use Rattle.tmem_args.proofs.args.explains_in.Goals as goal

pub returns-in-Some : goal.returns-in-Some
returns-in-Some c words met =
    subst (λ t. IsFlagOf t c.flag_in.result) (given c.args.matches.now words met (one_of (codes "explain")) _ c.in-Some.ensures.rows) c.flag_in.ensures
