use Rattle.std.proofs.Common.{◌≡◌, List, ℕ, false, ◌&&◌, ◌||◌, bytes_eq, codes, sym, ap, ◌∙◌}
use Rattle.std.proofs.lemmas.Map.Views.{any-filter_same}
use Rattle.std.proofs.lemmas.Slice.Eq.{bytes_eq-Decides}
use Rattle.tmem_invariants.specs.Meanings.{has_written, touched, touches}
use Rattle.tmem_invariants.specs.TableNames.{has_name}
use Rattle.tmem_store_tests.proofs.tests.no_closures.AlwaysTrueInvariants.is_touched.Goals as goal

-- it is over no variable, so no write touches it
pub returns : goal.returns
returns c = λ m held stated are_held.
    let always : List ℕ = codes "always" in
    let written = c.args._written.now in
    let untouched : has_name (touched m written held) always ≡ false =
    any-filter_same (λ other. bytes_eq other always) (touches m written) (touches m written always) (λ other is. ap (touches m written) ((bytes_eq-Decides other always).0 is)) held
    ∙ ap (λ footprint. has_written written footprint && has_name held always) stated.0 in
    sym (ap (λ b. b || false) untouched)
