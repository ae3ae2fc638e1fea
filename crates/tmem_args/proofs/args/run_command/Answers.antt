use Rattle.std.proofs.Common.{codes}
use Rattle.clap.specs.Simple.{new_app, with_rule}
use Rattle.tmem_args.specs.CommandLine.{disk_words, explain_words, script_word}
use Rattle.tmem_args.proofs.args.run_command.Goals as goal

pub returns-clause-app : goal.returns-clause-app
returns-clause-app c =
    let two = c.subcommand_with-run.ensures.app script_word disk_words c.script_arg.ensures.rule c.script_arg.ensures.local c.disk_arg-disk.ensures.rule c.disk_arg-disk.ensures.local in
    c.with_arg.ensures.app (with_rule (with_rule (new_app (codes "run")) script_word) disk_words) explain_words two c.explain_arg.ensures.rule c.explain_arg.ensures.local

pub returns-clause-local : goal.returns-clause-local
returns-clause-local c = c.with_arg.ensures.local (c.subcommand_with-run.ensures.local c.script_arg.ensures.local c.disk_arg-disk.ensures.local) c.explain_arg.ensures.local
