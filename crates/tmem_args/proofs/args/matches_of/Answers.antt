use Rattle.std.proofs.Common.{◌≡◌, map, string_bytes, subst, ap, ◌∙◌}
use Rattle.std.proofs.lemmas.Result.{IfOk-weaker}
use Rattle.clap.specs.Faults.{fault_of, is_simple_and_free}
use Rattle.clap.specs.Kinds.{FailsBy}
use Rattle.clap.specs.Simple.{app_of, is_simple, subcommand_of}
use Rattle.tmem_args.specs.CommandLine.{command_line}
use Rattle.tmem_args.proofs.args.matches_of.Goals as goal

pub returns-clause-met : goal.returns-clause-met
returns-clause-met c =
    let same : app_of c.in_ok-command.field-0 ≡ command_line = c.in_ok-command.ensures in
    IfOk-weaker c.try_get_matches_from.result _ _
    (λ matches has. (has (ap is_simple same)).1 ∙ ap (λ a. subcommand_of a (map string_bytes c.args.words.now)) same)
    c.try_get_matches_from.ensures.matches

pub returns-clause-refused : goal.returns-clause-refused
returns-clause-refused c =
    let same : app_of c.in_ok-command.field-0 ≡ command_line = c.in_ok-command.ensures in
    subst (λ kinds. FailsBy kinds c.try_get_matches_from.result) (ap (λ a. fault_of a (map string_bytes c.args.words.now)) same)
    (c.try_get_matches_from.ensures.kinds (ap is_simple_and_free same))
