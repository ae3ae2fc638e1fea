use Rattle.std.proofs.Common.{◌∙◌, rules}
use Rattle.std.proofs.lemmas.Result.{err_from_is_err_and}
use Rattle.tmem_front.proofs.Refused.{named_among, meant_among}
use Rattle.tmem_front.proofs.front.Front.why_refused.Goals as goal

pub told_where_false-requires-clause-named : goal.told_where_false-requires-clause-named
told_where_false-requires-clause-named g c =
    let names = g.N.ProgramNaming.program.names in
    let signature = c.in-Some.signature.now in
    named_among c.deref.result.now signature names c.in-Some.ensures.among (rw c.deref.ensures.value c.args.self.now.named)

pub told_where_false-requires-clause-meant : goal.told_where_false-requires-clause-meant
told_where_false-requires-clause-meant g c =
    let tests = g.N.ProgramNaming.program.tests in
    let signature = c.in-Some.signature.now in
    meant_among tests c.deref.result.now signature (rw c.deref.ensures.value c.args.self.now.meant) c.in-Some.ensures.among

pub returns-in_default : goal.returns-in_default
returns-in_default g c = record { why = tt; knows = search rules; memory = tt }

pub returns-in_err-values : goal.returns-in_err-values
returns-in_err-values g c =
    let handed = err_from_is_err_and c.from_residual.result c.from_residual.ensures.1 in
    rw handed.1 (record { why = tt; knows = search rules; memory = handed.2 ∙ c.in_err-values.ensures.memory })
