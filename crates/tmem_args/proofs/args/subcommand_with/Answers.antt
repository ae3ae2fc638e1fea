use Rattle.std.proofs.Common.{◌≡◌, false, ap, ◌∙◌}
use Rattle.std.proofs.lemmas.Result.{IfOk-weaker}
use Rattle.clap.specs.Simple.{App, app_of, app_of_fields, new_app, with_rule}
use Rattle.clap.specs.declared.builder.command.Command.TheOpen.{Command-F}
use Rattle.clap.specs.declared.builder.command.Command.TheViews.{out-Command as fields_of}
use Rattle.clap.specs.declared.builder.command.Command.{Command}
use Rattle.tmem_args.proofs.Asking.{more, more_local}
use Rattle.tmem_args.proofs.args.subcommand_with.Goals as goal

pub returns-clause-app : goal.returns-clause-app
returns-clause-app c one two is_one local_one is_two local_two =
    let top : App = new_app c.args.name.now in
    let alone : app_of c.about.result ≡ top = ap app_of_fields c.about.ensures ∙ c.new.ensures.app in
    c.with_arg.ensures.app (with_rule top one) two
    (IfOk-weaker c.arg.result _ _ (λ command adds. more _ _ command top one adds local_one alone is_one) c.arg.ensures)
    is_two local_two

pub returns-clause-local : goal.returns-clause-local
returns-clause-local c local_one local_two =
    let alone : (fields_of c.about.result).has_globals ≡ false = ap (λ (f : Command-F Command). f.has_globals) c.about.ensures ∙ c.new.ensures.local in
    c.with_arg.ensures.local (IfOk-weaker c.arg.result _ _ (λ command adds. more_local _ _ command adds local_one alone) c.arg.ensures) local_two
