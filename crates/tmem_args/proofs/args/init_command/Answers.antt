use Rattle.std.proofs.Common.{codes}
use Rattle.clap.specs.Simple.{new_app, with_rule}
use Rattle.tmem_args.specs.CommandLine.{explain_words, file_word, flag_word, store_word}
use Rattle.tmem_args.proofs.args.init_command.Goals as goal

pub returns-clause-app : goal.returns-clause-app
returns-clause-app c =
    let two = c.subcommand_with-init.ensures.app store_word file_word c.store_arg.ensures.rule c.store_arg.ensures.local c.required_arg.ensures.rule c.required_arg.ensures.local in
    let three = c.with_arg.ensures.app (with_rule (with_rule (new_app (codes "init")) store_word) file_word) (flag_word (codes "in-place")) two c.flag_arg-in_place.ensures.rule c.flag_arg-in_place.ensures.local in
    c.with_arg-2.ensures.app (with_rule (with_rule (with_rule (new_app (codes "init")) store_word) file_word) (flag_word (codes "in-place"))) explain_words three c.explain_arg.ensures.rule c.explain_arg.ensures.local

pub returns-clause-local : goal.returns-clause-local
returns-clause-local c = c.with_arg-2.ensures.local (c.with_arg.ensures.local (c.subcommand_with-init.ensures.local c.store_arg.ensures.local c.required_arg.ensures.local) c.flag_arg-in_place.ensures.local) c.explain_arg.ensures.local
