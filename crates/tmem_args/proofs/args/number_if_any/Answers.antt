use Rattle.std.proofs.Common.{subst}
use Rattle.std.specs.Str.Parse.{ParsesUnsigned, ExplainsUnsignedError, HasUnsignedDigitsIfOk}
use Rattle.clap.specs.Matches.{found_of}
use Rattle.clap.proofs.WalkLemmas.{one_text-rows}
use Rattle.tmem_args.specs.CommandLine.{IsNumberIfAny}
use Rattle.tmem_args.proofs.Numbers.{read_if_any}
use Rattle.tmem_args.proofs.args.number_if_any.Goals as goal

pub returns : goal.returns
returns c =
    let rows = one_text-rows (found_of c.args.matches.now) c.args.id.now in
    subst (λ o. IsNumberIfAny o c.get_one.result) rows
    (read_if_any _ (λ text r. ParsesUnsigned 16 10 text r × ExplainsUnsignedError 10 text r × HasUnsignedDigitsIfOk text r) (λ text r gives. gives.0) _ c.get_one.result
    c.get_one.ensures.none c.get_one.ensures.value)
