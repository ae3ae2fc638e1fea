use Rattle.std.proofs.Common.{codes}
use Rattle.clap.specs.Simple.{new_app, with_rule}
use Rattle.tmem_args.specs.CommandLine.{disk_words, explain_words, number_word}
use Rattle.tmem_args.proofs.args.threads_command.Goals as goal

pub returns-clause-app : goal.returns-clause-app
returns-clause-app c =
    let two = c.subcommand_with-threads.ensures.app (number_word (codes "workers") 16) (number_word (codes "turns") 1000) c.workers_arg.ensures.rule c.workers_arg.ensures.local c.turns_arg.ensures.rule c.turns_arg.ensures.local in
    let three = c.with_arg.ensures.app (with_rule (with_rule (new_app (codes "threads")) (number_word (codes "workers") 16)) (number_word (codes "turns") 1000)) disk_words two c.disk_arg-disk.ensures.rule c.disk_arg-disk.ensures.local in
    c.with_arg-2.ensures.app (with_rule (with_rule (with_rule (new_app (codes "threads")) (number_word (codes "workers") 16)) (number_word (codes "turns") 1000)) disk_words) explain_words three c.explain_arg.ensures.rule c.explain_arg.ensures.local

pub returns-clause-local : goal.returns-clause-local
returns-clause-local c = c.with_arg-2.ensures.local (c.with_arg.ensures.local (c.subcommand_with-threads.ensures.local c.workers_arg.ensures.local c.turns_arg.ensures.local) c.disk_arg-disk.ensures.local) c.explain_arg.ensures.local
