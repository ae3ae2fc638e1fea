-- Names that are all in a table.
use Rattle.std.proofs.Common.{◌≡◌, ℕ, ◌≤◌, ◌<◌, ◌||◌, ℤ, Bool, true, false, bytes_eq, bit_or, List, length, get_or, All, IsTrue, None, refl, sym, ap, ◌∙◌, subst, arith}
use Rattle.std.proofs.Math.Bool.{or_comm}
use Rattle.std.proofs.lemmas.Cmp.{nat_list_eq_equiv}
use Rattle.std.specs.Set.{is_member}
use Rattle.std.proofs.lemmas.Bool.{false_from_ne_true}
use Rattle.std.proofs.lemmas.List.Folds.{Any-from_list_any, list_any_at}
use Rattle.std.proofs.lemmas.Map.Keys.{IsDistinct-from_apart}
use Rattle.std.proofs.lemmas.Map.Made.{length-le_from_is_member}
use Rattle.std.proofs.lemmas.Slice.Eq.{bytes_eq-Decides}
use Rattle.tmem_effect.specs.Names.{AreAscending, has_name, with_names, without_names}
use Rattle.tmem_effect.specs.State.{State, apply}
use Rattle.tmem_effect.specs.declared.effect.Effect.{Effect}
use Rattle.tmem_effect.proofs.Laws.{All-without_names, AreAscending-apply, has_name-with_names, AreDistinct-ascending}
use Rattle.tmem_invariants.specs.Meanings.{Meanings, AllHold, first_false, holds}
use Rattle.tmem_invariants.specs.Indices.{AreIndicesOf}
use Rattle.tmem_invariants.proofs.Laws.{All-at_name, AreIndicesOf-join, at_index, Contains-from_has_name, IsSound-from_none}

-- each of these names is among others
abbrev pub AreAmong : List (List ℕ) → List (List ℕ) → Type 0
AreAmong names ns = All (λ name. IsTrue (has_name names name)) ns

-- ascending names that are all among others are no more than those
pub few-AreAmong : (names ns : List (List ℕ)) → AreAscending ns → AreAmong names ns → length ns ≤ length names
few-AreAmong names ns up among =
    length-le_from_is_member nat_list_eq_equiv ns names (IsDistinct-from_apart bytes_eq ns apart) member
  where
    apart : (i j : ℕ) (d : List ℕ) → i < j → j < length ns → bytes_eq (get_or ns i d) (get_or ns j d) ≡ false
    apart i j d order below =
        false_from_ne_true _ (λ is. AreDistinct-ascending ns up i j d order below ((bytes_eq-Decides (get_or ns i d) (get_or ns j d)).0 is))

    member : (name : List ℕ) → is_member bytes_eq ns name ≡ true → is_member bytes_eq names name ≡ true
    member name is =
        let found = Any-from_list_any (bytes_eq name) ns is in
        let same : get_or ns found.0 found.1 ≡ name = found.3 ∙ sym ((bytes_eq-Decides name found.1).0 found.4) in
        let there = Contains-from_has_name names name (subst (λ n. has_name names n ≡ true) same (among found.0 found.1 found.2)) in
        list_any_at (bytes_eq name) names there.0 name there.1 (ap (bytes_eq name) there.2 ∙ (bytes_eq-Decides name name).1 refl)

-- each of the names with more added is one of them, or was added
asked : (ns ms : List (List ℕ)) → All (λ name. IsTrue (has_name ns name || has_name ms name)) (with_names ns ms)
asked ns ms k d below =
    let name = get_or (with_names ns ms) k d in
    or_comm (has_name ns name) (has_name ms name) ∙ sym (has_name-with_names ns ms name) ∙ at_index (with_names ns ms) k d below

-- so they are all in the table, where both are
pub AreAmong-with_names : (names ns ms : List (List ℕ)) → AreAmong names ns → AreAmong names ms → AreAmong names (with_names ns ms)
AreAmong-with_names names ns ms first second k d below =
    let name = get_or (with_names ns ms) k d in
    by name (has_name ns name) refl (asked ns ms k d below)
  where
    by : (name : List ℕ) (b : Bool) → has_name ns name ≡ b → (b || has_name ms name) ≡ true → has_name names name ≡ true
    by name true is or = All-at_name (λ n. IsTrue (has_name names n)) ns name first is
    by name false is or = All-at_name (λ n. IsTrue (has_name names n)) ms name second or

-- what held of the registered names holds of those that an effect does not retire
pub AllHold-kept : (m : Meanings) (s : State) (e : Effect) (values : List ℤ) → AllHold m s.names values → AllHold m (without_names s.names e.retired) values
AllHold-kept m s e values held = All-without_names (λ name. IsTrue (holds m values name)) s.names e.retired held

module _ (names : List (List ℕ)) (s : State) (e : Effect) where
  abbrev kept : List (List ℕ)
  kept = without_names s.names e.retired

  module _ (first : AreAmong names s.names) (second : AreAmong names e.names) where
    among_kept : AreAmong names kept
    among_kept = All-without_names (λ name. IsTrue (has_name names name)) s.names e.retired first

    -- so are the names that an effect leaves registered
    pub AreAmong-apply : AreAmong names (apply s e).names
    AreAmong-apply = AreAmong-with_names names kept e.names among_kept second

    -- and all true, where none that is kept or proposed was found false
    pub AllHold-apply : (m : Meanings) → first_false m names kept e.names (apply s e).values ≡ None → AllHold m (apply s e).names (apply s e).values
    AllHold-apply m none = (IsSound-from_none m names kept e.names (apply s e).names (apply s e).values AreAmong-apply (asked kept e.names) none).hold

  -- and as few as the table's
  pub few-apply : AreAscending s.names → AreAmong names s.names → AreAmong names e.names → length names ≤ 64 → length (apply s e).names ≤ 64
  few-apply up first second few = omega (arith, few, few-AreAmong names (apply s e).names (AreAscending-apply s e up) (AreAmong-apply first second))

  -- their indices are those of what is kept and of what is proposed
  pub indices-apply : (a b : ℕ) → AreIndicesOf kept names a → AreIndicesOf e.names names b → AreIndicesOf (apply s e).names names (bit_or a b)
  indices-apply a b are_kept are_proposed =
      AreIndicesOf-join kept e.names (apply s e).names names a b (λ name. has_name-with_names kept e.names name ∙ or_comm (has_name e.names name) (has_name kept name)) are_kept are_proposed
