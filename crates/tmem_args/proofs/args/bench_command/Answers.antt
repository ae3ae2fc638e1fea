use Rattle.std.proofs.Common.{codes}
use Rattle.clap.specs.Simple.{new_app, with_rule}
use Rattle.tmem_args.specs.CommandLine.{disk_words, explain_words, option_words}
use Rattle.tmem_args.proofs.args.bench_command.Goals as goal

pub returns-clause-app : goal.returns-clause-app
returns-clause-app c =
    let two = c.subcommand_with-bench.ensures.app disk_words (option_words (codes "millis") 10 60000) c.disk_arg-disk.ensures.rule c.disk_arg-disk.ensures.local c.millis_arg.ensures.rule c.millis_arg.ensures.local in
    let three = c.with_arg.ensures.app (with_rule (with_rule (new_app (codes "bench")) disk_words) (option_words (codes "millis") 10 60000)) (option_words (codes "job") 1 48) two c.job_arg.ensures.rule c.job_arg.ensures.local in
    c.with_arg-2.ensures.app (with_rule (with_rule (with_rule (new_app (codes "bench")) disk_words) (option_words (codes "millis") 10 60000)) (option_words (codes "job") 1 48)) explain_words three c.explain_arg.ensures.rule c.explain_arg.ensures.local

pub returns-clause-local : goal.returns-clause-local
returns-clause-local c = c.with_arg-2.ensures.local (c.with_arg.ensures.local (c.subcommand_with-bench.ensures.local c.disk_arg-disk.ensures.local c.millis_arg.ensures.local) c.job_arg.ensures.local) c.explain_arg.ensures.local
