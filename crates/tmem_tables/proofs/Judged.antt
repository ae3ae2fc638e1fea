-- Entries that were judged as a slice.
use Rattle.std.proofs.Common.{◌≡◌, ◌≤◌, ℕ, List, length, map, All, Option, Some, None, Result, Err, ap, subst, inl, inr}
use Rattle.std.specs.Prelude.{◌↔◌}
use Rattle.std.proofs.lemmas.List.{length-map}
use Rattle.tmem_fault.specs.declared.fault.Fault.{Fault}
use Rattle.tmem_fault.specs.declared.fault.Fault.TheVariants.{BadName, BadFootprint}
use Rattle.tmem_invariants.specs.TableNames.{AreBelow, AreDistinct, AreTableNames}
use Rattle.tmem_tables.specs.EntryFaults.{IsEntryFault}

refused_by : {T : Type 0} (Names Footprints : Type 0) (fault : Fault) → IsEntryFault Names Footprints (Some fault) → (◌≡◌ {A = Result T Fault} (Err fault) (Err BadFootprint)) ↔ (Names × ¬ Footprints)
refused_by Names Footprints fault (inl h) = (λ same. let is : fault ≡ BadName = h.0 in absurd cc, λ good. absurd (h.1 good.0))
refused_by Names Footprints fault (inr h) = (λ same. h.1, λ good. ap Err h.0)

module _ {E : Type 0} (name footprint : E → List ℕ) (vars : ℕ) (xs es : List E) (same : xs ≡ es) where
  verdict_on : (o : Option Fault) → IsEntryFault (AreTableNames (map name xs)) (All (λ e. AreBelow vars (footprint e)) xs) o → IsEntryFault (AreTableNames (map name es)) (All (λ e. AreBelow vars (footprint e)) es) o
  verdict_on o = subst (λ (l : List E). IsEntryFault (AreTableNames (map name l)) (All (λ e. AreBelow vars (footprint e)) l) o) same

  pub few_entries : IsEntryFault (AreTableNames (map name xs)) (All (λ e. AreBelow vars (footprint e)) xs) None → length es ≤ 64
  few_entries good = subst (λ (n : ℕ). n ≤ 64) (length-map es name) (verdict_on None good).0.0

  pub distinct_names : IsEntryFault (AreTableNames (map name xs)) (All (λ e. AreBelow vars (footprint e)) xs) None → AreDistinct (map name es)
  distinct_names good = (verdict_on None good).0.1

  pub all_below : IsEntryFault (AreTableNames (map name xs)) (All (λ e. AreBelow vars (footprint e)) xs) None → All (λ e. AreBelow vars (footprint e)) es
  all_below good = (verdict_on None good).1

  pub bad_footprint : {T : Type 0} (fault : Fault) → IsEntryFault (AreTableNames (map name xs)) (All (λ e. AreBelow vars (footprint e)) xs) (Some fault) → (◌≡◌ {A = Result T Fault} (Err fault) (Err BadFootprint)) ↔ (AreTableNames (map name es) × ¬ All (λ e. AreBelow vars (footprint e)) es)
  bad_footprint fault bad = refused_by _ _ fault (verdict_on (Some fault) bad)
