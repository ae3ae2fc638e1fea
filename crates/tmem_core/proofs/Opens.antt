-- What stands against a state that is to be opened.
use Rattle.std.proofs.Common.{◌≡◌, ℕ, not, false, cond, List, [], ◌∷◌, IsTrue, Option, Some, None, refl, sym, ap, ◌∙◌, arith}
use Rattle.std.specs.Option.{option_or, option_map}
use Rattle.std.proofs.Math.Bool.{or_comm}
use Rattle.std.proofs.lemmas.List.Elements.{All-head, All-tail}
use Rattle.tmem_fault.specs.declared.fault.Fault.TheVariants.{Missing, Broken}
use Rattle.tmem_effect.specs.State.{State}
use Rattle.tmem_invariants.specs.Meanings.{Meanings, IsSound, first_false}
use Rattle.tmem_invariants.specs.TableNames.{first_missing, has_name}
use Rattle.tmem_invariants.proofs.Laws.{All-there, at_index, IsSound-from_none, first_false-AllHold}
use Rattle.tmem_core.specs.Opening.{fault_against}
use Rattle.tmem_core.proofs.Known.{AreAmong}

-- none is missing of names that are all among others
missing_none : (names ns : List (List ℕ)) → AreAmong names ns → first_missing names ns ≡ None
missing_none names [] among = refl
missing_none names (n ∷ ns) among =
    ap (λ b. cond (not b) (Some n) (first_missing names ns)) (All-head (λ x. IsTrue (has_name names x)) n ns among) ∙ missing_none names ns (All-tail (λ x. IsTrue (has_name names x)) n ns among)

module _ (names : List (List ℕ)) (m : Meanings) (s : State) where
  -- it is what the two tests find
  pub found-against : (missing broken : Option (List ℕ)) → first_missing names s.names ≡ missing → first_false m names s.names [] s.values ≡ broken → option_or (option_map Missing missing) (option_map Broken broken) ≡ fault_against names m s
  found-against missing broken first second =
      sym (ap (λ o. option_or (option_map Missing o) (option_map Broken (first_false m names s.names [] s.values))) first ∙ ap (λ o. option_or (option_map Missing missing) (option_map Broken o)) second)

  -- where nothing does, the state is sound
  pub opens : fault_against names m s ≡ None → IsSound m names s.names s.values
  opens none =
      let both = parts (first_missing names s.names) (first_false m names s.names [] s.values) none in
      IsSound-from_none m names s.names [] s.names s.values (All-there names s.names both.0)
      (λ k d below. or_comm (has_name s.names _) false ∙ at_index s.names k d below) both.1
    where
      parts : (missing false_one : Option (List ℕ)) → option_or (option_map Missing missing) (option_map Broken false_one) ≡ None → (missing ≡ None) × (false_one ≡ None)
      parts None None is = (refl, refl)
      parts None (Some name) is = cc
      parts (Some name) false_one is = cc

  -- and nothing does against a sound state
  pub sound-opens : IsSound m names s.names s.values → fault_against names m s ≡ None
  sound-opens sound =
      sym (found-against None None (missing_none names s.names sound.there) (first_false-AllHold m names s.names [] s.values sound.hold (λ k d below. absurd (omega (arith, below)))))
