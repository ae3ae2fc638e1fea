use Rattle.std.proofs.Common.{codes}
use Rattle.clap.specs.Simple.{new_app, with_rule}
use Rattle.tmem_args.specs.CommandLine.{explain_words, flag_word, store_word}
use Rattle.tmem_args.proofs.args.show_command.Goals as goal

pub returns-clause-app : goal.returns-clause-app
returns-clause-app c =
    let two = c.subcommand_with-show.ensures.app store_word (flag_word (codes "json")) c.store_arg.ensures.rule c.store_arg.ensures.local c.flag_arg-json.ensures.rule c.flag_arg-json.ensures.local in
    let three = c.with_arg.ensures.app (with_rule (with_rule (new_app (codes "show")) store_word) (flag_word (codes "json"))) (flag_word (codes "hex")) two c.flag_arg-hex.ensures.rule c.flag_arg-hex.ensures.local in
    c.with_arg-2.ensures.app (with_rule (with_rule (with_rule (new_app (codes "show")) store_word) (flag_word (codes "json"))) (flag_word (codes "hex"))) explain_words three c.explain_arg.ensures.rule c.explain_arg.ensures.local

pub returns-clause-local : goal.returns-clause-local
returns-clause-local c = c.with_arg-2.ensures.local (c.with_arg.ensures.local (c.subcommand_with-show.ensures.local c.store_arg.ensures.local c.flag_arg-json.ensures.local) c.flag_arg-hex.ensures.local) c.explain_arg.ensures.local
