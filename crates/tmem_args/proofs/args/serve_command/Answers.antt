use Rattle.std.proofs.Common.{codes}
use Rattle.clap.specs.Simple.{new_app, with_rule}
use Rattle.tmem_args.specs.CommandLine.{explain_words, shape_words, store_word}
use Rattle.tmem_args.proofs.args.serve_command.Goals as goal

pub returns-clause-app : goal.returns-clause-app
returns-clause-app c =
    let two = c.subcommand_with-serve.ensures.app store_word shape_words c.store_arg.ensures.rule c.store_arg.ensures.local c.option_arg.ensures.rule c.option_arg.ensures.local in
    c.with_arg.ensures.app (with_rule (with_rule (new_app (codes "serve")) store_word) shape_words) explain_words two c.explain_arg.ensures.rule c.explain_arg.ensures.local

pub returns-clause-local : goal.returns-clause-local
returns-clause-local c = c.with_arg.ensures.local (c.subcommand_with-serve.ensures.local c.store_arg.ensures.local c.option_arg.ensures.local) c.explain_arg.ensures.local
