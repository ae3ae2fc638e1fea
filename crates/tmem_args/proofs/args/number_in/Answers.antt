use Rattle.std.proofs.Common.{subst}
use Rattle.std.specs.Str.Parse.{ParsesUnsigned, ExplainsUnsignedError, HasUnsignedDigitsIfOk}
use Rattle.clap.specs.Matches.{found_of}
use Rattle.clap.proofs.WalkLemmas.{one_text-rows}
use Rattle.tmem_args.specs.CommandLine.{IsNumberOf}
use Rattle.tmem_args.proofs.Numbers.{read_number}
use Rattle.tmem_args.proofs.args.number_in.Goals as goal

pub returns : goal.returns
returns c =
    let rows = one_text-rows (found_of c.args.matches.now) c.args.id.now in
    subst (λ o. IsNumberOf o c.unwrap_or.result) rows
    (read_number _ (λ text r. ParsesUnsigned 16 10 text r × ExplainsUnsignedError 10 text r × HasUnsignedDigitsIfOk text r) (λ text r gives. gives.0) _ c.get_one.result c.unwrap_or.result
    c.get_one.ensures.none c.get_one.ensures.value c.unwrap_or.ensures)
