use Rattle.std.proofs.Common.{◌≡◌, None, Some, [], sym, ap, ◌∙◌}
use Rattle.tmem_invariants.specs.TableNames.{first_missing, name_at}
use Rattle.tmem_invariants.proofs.Laws.{All-there, AreIndicesOf-none}
use Rattle.tmem_core.proofs.Opens.{found-against}
use Rattle.tmem_core.proofs.core_state.fault_against.Goals as goal

pub returns-in-Some-test_all-clause-which : goal.returns-in-Some-test_all-clause-which
returns-in-Some-test_all-clause-which g c = λ m stated.
    let names = g.T.Invariants.names c.args.table.now in
    let s = c.args.state.now in
    let there : first_missing names s.names ≡ None = rw c.names.ensures.names at (sym c.missing.ensures ∙ c.in_default.is) in
    let answer = rw c.values.ensures at (c.test_all.ensures.first m s.names [] stated c.requires.indices (AreIndicesOf-none names)) in
    found-against names m s None (Some c.name.result) there (sym answer ∙ ap (name_at names) c.in-Some-test_all.is ∙ c.name.ensures)

pub returns-in-None-clause-which : goal.returns-in-None-clause-which
returns-in-None-clause-which g c = λ m stated.
    let names = g.T.Invariants.names c.args.table.now in
    let s = c.args.state.now in
    let there : first_missing names s.names ≡ None = rw c.names.ensures.names at (sym c.missing.ensures ∙ c.in_default.is) in
    let answer = rw c.values.ensures at (c.test_all.ensures.first m s.names [] stated c.requires.indices (AreIndicesOf-none names)) in
    found-against names m s None None there (sym answer ∙ ap (name_at names) c.in-None.is)

pub returns-in-None-clause-known : goal.returns-in-None-clause-known
returns-in-None-clause-known g c = All-there (g.T.Invariants.names c.args.table.now) c.args.state.now.names (rw c.names.ensures.names at (sym c.missing.ensures ∙ c.in_default.is))
