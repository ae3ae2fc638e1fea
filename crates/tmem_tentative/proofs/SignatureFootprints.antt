-- What signatures say of the footprint of a name.
use Rattle.std.proofs.Common.{◌≡◌, ℕ, ◌<◌, Bool, true, false, ◌||◌, bytes_eq, List, [], ◌∷◌, cond, Some, refl, sym, ap, ◌∙◌}
use Rattle.std.specs.Option.{option_map_or}
use Rattle.std.proofs.lemmas.List.Elements.{All-nil, All-head, All-tail}
use Rattle.std.proofs.lemmas.Slice.Eq.{bytes_eq-Decides}
use Rattle.tmem_effect.specs.Names.{has_name}
use Rattle.tmem_invariants.specs.Meanings.{Meanings}
use Rattle.tmem_invariants.specs.TableNames.{AreBelow}
use Rattle.tmem_tree.specs.Signatures.{AreMeant, AreWithin, footprint_in, names_of, signature_in}
use Rattle.tmem_tree.specs.declared.signature.Signature.{Signature}
use Rattle.tmem_tentative.specs.Logs.{AreOf}

-- their own
pub own_of : (signatures : List Signature) → AreOf signatures (footprint_in signatures)
own_of signatures name known = refl

-- the one that is meant
pub meant_of : (tests : Meanings) (signatures : List Signature) → AreMeant tests signatures → AreOf signatures tests.footprint
meant_of tests [] meant name known = cc
meant_of tests (signature ∷ signatures) meant name known =
    on (bytes_eq signature.name name) refl known (meant_of tests signatures (All-tail (λ s. s.footprint ≡ tests.footprint s.name) signature signatures meant) name)
  where
    on : (b : Bool) → bytes_eq signature.name name ≡ b → (b || has_name (names_of signatures) name) ≡ true → (has_name (names_of signatures) name ≡ true → tests.footprint name ≡ footprint_in signatures name) → tests.footprint name ≡ option_map_or (λ s. s.footprint) (cond b (Some signature) (signature_in signatures name)) []
    on true is known rest =
        ap tests.footprint (sym ((bytes_eq-Decides signature.name name).0 is)) ∙ sym (All-head (λ s. s.footprint ≡ tests.footprint s.name) signature signatures meant)
    on false is known rest = rest known

-- each of its variables is one of so many
pub within_of : (vars : ℕ) (signatures : List Signature) → AreWithin vars signatures → (name : List ℕ) → AreBelow vars (footprint_in signatures name)
within_of vars [] within name = All-nil (λ var. var < vars)
within_of vars (signature ∷ signatures) within name =
    on (bytes_eq signature.name name) (within_of vars signatures (All-tail (λ s. AreBelow vars s.footprint) signature signatures within) name)
  where
    on : (b : Bool) → AreBelow vars (footprint_in signatures name) → AreBelow vars (option_map_or (λ s. s.footprint) (cond b (Some signature) (signature_in signatures name)) [])
    on true rest = All-head (λ s. AreBelow vars s.footprint) signature signatures within
    on false rest = rest
