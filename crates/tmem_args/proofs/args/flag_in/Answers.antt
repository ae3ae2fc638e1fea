use Rattle.std.proofs.Common.{◌∙◌}
use Rattle.clap.specs.Matches.{found_of}
use Rattle.clap.proofs.WalkLemmas.{one_text-rows}
use Rattle.tmem_args.proofs.args.flag_in.Goals as goal

pub returns : goal.returns
returns c =
    let rows = one_text-rows (found_of c.args.matches.now) c.args.id.now in
    record { none = λ is. c.get_flag.ensures.none (rows ∙ is); given = λ is. c.get_flag.ensures.value (rows ∙ is); left_out = λ is. c.get_flag.ensures.other (rows ∙ is) }
