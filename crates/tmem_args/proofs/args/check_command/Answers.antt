use Rattle.tmem_args.specs.CommandLine.{explain_words, script_to_check}
use Rattle.tmem_args.proofs.args.check_command.Goals as goal

pub returns-clause-app : goal.returns-clause-app
returns-clause-app c = c.subcommand_with.ensures.app script_to_check explain_words c.required_arg-script.ensures.rule c.required_arg-script.ensures.local c.flag_arg-explain.ensures.rule c.flag_arg-explain.ensures.local

pub returns-clause-local : goal.returns-clause-local
returns-clause-local c = c.subcommand_with.ensures.local c.required_arg-script.ensures.local c.flag_arg-explain.ensures.local
