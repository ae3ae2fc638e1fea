use Rattle.std.proofs.Common.{not, bytes_eq}
use Rattle.std.proofs.lemmas.List.Filters.{FiltersInPlace}
use Rattle.tmem_effect.proofs.names.keep_others.Given as goal

abbrev pub invariant-loop-at : goal.invariant-loop-at
invariant-loop-at l = FiltersInPlace (λ n. not (bytes_eq n l.name)) l.initial.items l.items l.kept l.at
