use Rattle.std.proofs.Common.{◌≡◌, [], ◌∷◌, codes, drop, find}
use Rattle.tmem_invariants.specs.TableNames.{lacks}
use Rattle.tmem_store_tests.proofs.tests.no_closures.AlwaysTrueInvariants.missing.Given as goal

abbrev pub invariant-loop-name : goal.invariant-loop-name
invariant-loop-name l =
    find (lacks (codes "always" ∷ [])) l.registered ≡ find (lacks (codes "always" ∷ [])) (drop l.name-index l.registered)
