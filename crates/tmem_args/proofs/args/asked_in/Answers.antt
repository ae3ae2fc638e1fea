use Rattle.std.proofs.Common.{None, codes, refl, subst, sym, ◌∙◌}
use Rattle.clap.specs.Walk.{first_of, one_of}
use Rattle.tmem_args.specs.CommandLine.{IsFlagOf, IsNumberIfAny}
use Rattle.tmem_args.proofs.Asking.{given, named, names_no_other}
use Rattle.tmem_args.proofs.args.asked_in.Goals as goal

pub returns-in_default-subcommand : goal.returns-in_default-subcommand
returns-in_default-subcommand c words met =
    let rows = c.in_default-subcommand.ensures.rows in (
      names_no_other c.args.matches.now words met c.in_default.ensures.found.1 c.in_default-subcommand_matches.ensures.found.1 c.in_default-subcommand_matches-2.ensures.found.1 c.in_default-subcommand_matches-3.ensures.found.1 c.in_default-subcommand_matches-4.ensures.found.1 c.in_default-subcommand_matches-5.ensures.found.1,
      given c.args.matches.now words met (first_of (codes "script")) None rows,
      given c.args.matches.now words met (first_of (codes "disk")) None rows,
    )

pub returns : goal.returns
returns c words met =
    let rows = c.in-Some-subcommand.ensures.rows in (
      names_no_other c.args.matches.now words met c.in_default.ensures.found.1 c.in_default-subcommand_matches.ensures.found.1 c.in_default-subcommand_matches-2.ensures.found.1 c.in_default-subcommand_matches-3.ensures.found.1 c.in_default-subcommand_matches-4.ensures.found.1 c.in_default-subcommand_matches-5.ensures.found.1,
      c.paths_of.ensures.script ∙ given c.args.matches.now words met (first_of (codes "script")) _ rows,
      c.paths_of.ensures.disk ∙ given c.args.matches.now words met (first_of (codes "disk")) _ rows,
    )

pub returns-in-Some-subcommand_matches : goal.returns-in-Some-subcommand_matches
returns-in-Some-subcommand_matches c words met =
    let it = c.in-Some-subcommand_matches.ensures in
    let rows = sym it.rows in (
      named c.args.matches.now words met ∙ it.found.0 refl,
      record {
        store = c.timing_of.ensures.disk ∙ given c.args.matches.now words met (first_of (codes "disk")) _ rows;
        time = subst (λ t. IsNumberIfAny t c.timing_of.result.millis) (given c.args.matches.now words met (one_of (codes "millis")) _ rows) c.timing_of.ensures.millis;
        line = subst (λ t. IsNumberIfAny t c.timing_of.result.job) (given c.args.matches.now words met (one_of (codes "job")) _ rows) c.timing_of.ensures.job;
      },
    )

pub returns-in-Some-subcommand_matches-2 : goal.returns-in-Some-subcommand_matches-2
returns-in-Some-subcommand_matches-2 c words met =
    let it = c.in-Some-subcommand_matches-2.ensures in
    let rows = sym it.rows in (
      named c.args.matches.now words met ∙ it.found.0 refl,
      record {
        store = c.showing_of.ensures.store ∙ given c.args.matches.now words met (first_of (codes "store")) _ rows;
        json = subst (λ t. IsFlagOf t c.showing_of.result.is_json) (given c.args.matches.now words met (one_of (codes "json")) _ rows) c.showing_of.ensures.json;
        hex = subst (λ t. IsFlagOf t c.showing_of.result.has_hex) (given c.args.matches.now words met (one_of (codes "hex")) _ rows) c.showing_of.ensures.hex;
      },
    )

pub returns-in-Some-subcommand_matches-3 : goal.returns-in-Some-subcommand_matches-3
returns-in-Some-subcommand_matches-3 c words met =
    let it = c.in-Some-subcommand_matches-3.ensures in
    let rows = sym it.rows in (
      named c.args.matches.now words met ∙ it.found.0 refl,
      record {
        store = c.making_of.ensures.store ∙ given c.args.matches.now words met (first_of (codes "store")) _ rows;
        file = c.making_of.ensures.file ∙ given c.args.matches.now words met (first_of (codes "file")) _ rows;
        in_place = subst (λ t. IsFlagOf t c.making_of.result.is_in_place) (given c.args.matches.now words met (one_of (codes "in-place")) _ rows) c.making_of.ensures.in_place;
      },
    )

pub returns-in-Some-subcommand_matches-5 : goal.returns-in-Some-subcommand_matches-5
returns-in-Some-subcommand_matches-5 c words met =
    let it = c.in-Some-subcommand_matches-5.ensures in
    (named c.args.matches.now words met ∙ it.found.0 refl, c.text_of.ensures ∙ given c.args.matches.now words met (first_of (codes "script")) _ (sym it.rows))
