use Rattle.std.proofs.Common.{sym, ◌∙◌}
use Rattle.std.proofs.lemmas.Bool.{false≢true, OnTrue_from, OnFalse_from}
use Rattle.tmem_image.proofs.ImageNames.{header_found, no_names_there, not_blank}
use Rattle.tmem_image.proofs.reading.read_names.Goals as goal

pub returns-in_default-clause-none : goal.returns-in_default-clause-none
returns-in_default-clause-none c = no_names_there c.args.bytes.now c.in_default.ensures.none

pub returns-clause-none : goal.returns-clause-none
returns-clause-none c = OnFalse_from c.is_zero.result _ (λ no. not_blank c.read_name_set.new.names c.args.bytes.now c.in-Some.rest.now c.in-Some.ensures.are_registered c.in-Some.ensures.found (λ blank. false≢true (sym no ∙ c.is_zero.ensures.1 blank)))

pub returns-clause-found : goal.returns-clause-found
returns-clause-found c = OnTrue_from c.is_zero.result _ (λ yes. header_found c.read_name_set.new.names c.args.bytes.now c.in-Some.rest.now c.requires.long c.in-Some.ensures.found (c.is_zero.ensures.0 yes))
