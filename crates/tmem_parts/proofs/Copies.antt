-- A device that all bytes were written to.
use Rattle.std.proofs.Common.{◌≡◌, ℕ, ◌+◌, List, [], ◌++◌, length, drop, ap, ◌∙◌, arith}
use Rattle.std.proofs.lemmas.List.{append-nil, drop_all}
use Rattle.tmem_disk.specs.Disk.{overwritten}

-- it holds these alone
pub whole_written : (old new bytes : List ℕ) → length old ≡ length bytes → new ≡ overwritten old 0 bytes → new ≡ bytes
whole_written old new bytes long is =
    let none : drop (0 + length bytes) old ≡ [] = drop_all (0 + length bytes) old (omega (arith, long)) in
    is ∙ ap (λ (rest : List ℕ). bytes ++ rest) none ∙ append-nil bytes
