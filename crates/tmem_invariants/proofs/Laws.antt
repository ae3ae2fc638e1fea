-- The laws of names in a table and of sound states, on which the crates above rest too.
use Rattle.std.proofs.Common.{◌≡◌, ℕ, ◌^◌, ◌<◌, ℤ, w64, bit_and, bit_or, length, Bool, true, false, not, cond, ◌||◌, ◌&&◌, List, [], ◌∷◌, All, Option, Some, None, find, get_or, IsTrue, refl, sym, ap, ◌∙◌}
use Rattle.std.specs.Prelude.{slice_get}
use Rattle.std.specs.Int.{bit_not}
use Rattle.std.specs.List.{list_any}
use Rattle.std.specs.Option.{option_map_or}
use Rattle.std.proofs.Math.Bool.{and_comm}
use Rattle.std.proofs.lemmas.Bool.{false_from_ne_true}
use Rattle.std.proofs.lemmas.List.Folds.{list_any_at, list_any_none}
use Rattle.std.proofs.lemmas.Option.{slice_get-get_or}
use Rattle.tmem_invariants.specs.Meanings.{Meanings, AllHold, DifferInWritten, IsSound, fails, first_false, holds, touched}
use Rattle.tmem_invariants.specs.Indices.{AreIndicesOf, has_index, stands_at}
use Rattle.tmem_invariants.specs.TableNames.{first_missing, has_name, lacks}
pub use Rattle.tmem_invariants.proofs.Among.{All-at_name, at_index, Contains-from_has_name, has_name-from_Contains}
use Rattle.tmem_invariants.proofs.NameIndices.{stands_at-none}
pub use Rattle.tmem_invariants.proofs.IndexSets.{clear_is_less, has_index-and, has_index-clear, has_index-or, has_index-without, has_index-zero, lowest_is_there, none_is_lower}
pub use Rattle.tmem_invariants.proofs.Scans.{All-take_more, All_read, All_whole, AreDistinct-take_more, AreDistinct_whole, find_here, find_none, lacks_from_none, list_any-take_more, list_any_here, list_any_whole, not-AreDistinct, not-AreDistinct-take, scan_more, scan_none, slice_get-map_read, slice_get_read}
pub use Rattle.tmem_invariants.proofs.TouchedInvariants.{first_false-touched, has_name-touched}

-- none found is none that passes
none_of : {X : Type 0} (first : Bool) (x : X) (rest : Option X) (any : Bool) → cond first (Some x) rest ≡ None → (rest ≡ None → any ≡ false) → (first || any) ≡ false
none_of true x rest any none more = cc
none_of false x rest any none more = more none

list_any-from_find : {X : Type 0} (p : X → Bool) (xs : List X) → find p xs ≡ None → list_any p xs ≡ false
list_any-from_find p [] none = refl
list_any-from_find p (x ∷ xs) none =
    none_of (p x) x (find p xs) (list_any p xs) none (list_any-from_find p xs)

fails_each : {X : Type 0} (p : X → Bool) (xs : List X) → find p xs ≡ None → All (λ x. p x ≡ false) xs
fails_each p xs none k d within =
    false_from_ne_true (p (get_or xs k d)) (λ is. let clash : true ≡ false = sym (list_any_at p xs k d within is) ∙ list_any-from_find p xs none in absurd (cc))

-- a name of the table that is registered or proposed is true of the map, where no first false one was found
pub holds_from_none : (m : Meanings) (names registered proposed : List (List ℕ)) (values : List ℤ) → first_false m names registered proposed values ≡ None → (name : List ℕ) → has_name names name ≡ true → (has_name registered name || has_name proposed name) ≡ true → holds m values name ≡ true
holds_from_none m names registered proposed values none name there asked =
    held (holds m values name) refl
  where
    passed : fails m registered proposed values name ≡ false
    passed = All-at_name (λ other. fails m registered proposed values other ≡ false) names name (fails_each (fails m registered proposed values) names none) there

    held : (b : Bool) → holds m values name ≡ b → holds m values name ≡ true
    held true is = is
    held false is =
        let clash : true ≡ false = sym (ap (λ a. a && not (holds m values name)) asked ∙ ap not is) ∙ passed in
        cc

-- where a table lacks none of the registered names, each is there
pub All-there : (names registered : List (List ℕ)) → first_missing names registered ≡ None → All (λ name. IsTrue (has_name names name)) registered
All-there names registered none k d within =
    there (has_name names (get_or registered k d)) (fails_each (lacks names) registered none k d within)
  where
    there : (b : Bool) → not b ≡ false → b ≡ true
    there true is = refl
    there false is = cc

-- A state is sound where none of its registered names was found false. These names may be more than those that were
-- registered before: each is one of them, or was proposed.
pub IsSound-from_none : (m : Meanings) (names registered proposed kept : List (List ℕ)) (values : List ℤ) → All (λ name. IsTrue (has_name names name)) kept → All (λ name. IsTrue (has_name registered name || has_name proposed name)) kept → first_false m names registered proposed values ≡ None → IsSound m names kept values
IsSound-from_none m names registered proposed kept values there asked none = record {
  there = there;
  hold = λ k d within. holds_from_none m names registered proposed values none (get_or kept k d) (there k d within) (asked k d within);
}

-- no name is found false where each of the table's that is registered or proposed holds
pub first_false-none : (m : Meanings) (names registered proposed : List (List ℕ)) (values : List ℤ) → ((name : List ℕ) → has_name names name ≡ true → (has_name registered name || has_name proposed name) ≡ true → holds m values name ≡ true) → first_false m names registered proposed values ≡ None
first_false-none m names registered proposed values each =
    find_none (fails m registered proposed values) names (list_any_none (fails m registered proposed values) names passes)
  where
    asked : (a held : Bool) → (a ≡ true → held ≡ true) → (a && not held) ≡ false
    asked true held holds_then = ap not (holds_then refl)
    asked false held holds_then = refl

    passes : (k : ℕ) (d : List ℕ) → k < length names → fails m registered proposed values (get_or names k d) ≡ false
    passes k d within =
        let name = get_or names k d in
        asked (has_name registered name || has_name proposed name) (holds m values name) (each name (at_index names k d within))

-- nor where all of them hold
pub first_false-AllHold : (m : Meanings) (names registered proposed : List (List ℕ)) (values : List ℤ) → AllHold m registered values → AllHold m proposed values → first_false m names registered proposed values ≡ None
first_false-AllHold m names registered proposed values registered_hold proposed_hold =
    first_false-none m names registered proposed values (λ name there. either name (has_name registered name) refl)
  where
    either : (name : List ℕ) (b : Bool) → has_name registered name ≡ b → (b || has_name proposed name) ≡ true → holds m values name ≡ true
    either name true is asked = All-at_name (λ other. IsTrue (holds m values other)) registered name registered_hold is
    either name false is asked = All-at_name (λ other. IsTrue (holds m values other)) proposed name proposed_hold asked

-- no names have no indices
pub AreIndicesOf-none : (names : List (List ℕ)) → AreIndicesOf [] names 0
AreIndicesOf-none names index = has_index-zero index ∙ sym (stands_at-none names index)

-- the indices of names together are those of either
pub AreIndicesOf-join : (first more both names : List (List ℕ)) (a b : ℕ) → ((name : List ℕ) → has_name both name ≡ (has_name first name || has_name more name)) → AreIndicesOf first names a → AreIndicesOf more names b → AreIndicesOf both names (bit_or a b)
AreIndicesOf-join first more both names a b either are_first are_more index =
    has_index-or a b index
    ∙ ap (λ x. x || has_index b index) (are_first index)
    ∙ ap (λ x. stands_at first names index || x) (are_more index)
    ∙ sym (on (slice_get names index))
  where
    on : (o : Option (List ℕ)) → option_map_or (has_name both) o false ≡ (option_map_or (has_name first) o false || option_map_or (has_name more) o false)
    on None = refl
    on (Some name) = either name

-- the indices of names without some of them are those of the names that are left
pub AreIndicesOf-without : (held gone left names : List (List ℕ)) (a b : ℕ) → a < 2 ^ 64 → b < 2 ^ 64 → ((name : List ℕ) → has_name left name ≡ (not (has_name gone name) && has_name held name))
    → AreIndicesOf held names a → AreIndicesOf gone names b → AreIndicesOf left names (bit_and a (bit_not w64 b))
AreIndicesOf-without held gone left names a b fits_a fits_b apart are_held are_gone index =
    has_index-without a b index fits_a fits_b
    ∙ ap (λ x. x && not (has_index b index)) (are_held index)
    ∙ ap (λ x. stands_at held names index && not x) (are_gone index)
    ∙ sym (on (slice_get names index))
  where
    on : (o : Option (List ℕ)) → option_map_or (has_name left) o false ≡ (option_map_or (has_name held) o false && not (option_map_or (has_name gone) o false))
    on None = refl
    on (Some name) = apart name ∙ and_comm (not (has_name gone name)) (has_name held name)

-- what holds of names holds of fewer
pub AllHold-fewer : (m : Meanings) (names fewer : List (List ℕ)) (values : List ℤ) → All (λ name. IsTrue (has_name names name)) fewer → AllHold m names values → AllHold m fewer values
AllHold-fewer m names fewer values among held k d within =
    All-at_name (λ name. IsTrue (holds m values name)) names (get_or fewer k d) held (among k d within)

-- where writes touch no registered name, and none is proposed, none is found false after them
pub first_false-untouched : (m : Meanings) (names held asked : List (List ℕ)) (written : List (ℕ × ℤ)) (before after : List ℤ) → DifferInWritten written before after → AllHold m held before → AreIndicesOf asked names 0 → list_any (has_name (touched m written held)) names ≡ false → first_false m names held asked after ≡ None
first_false-untouched m names held asked written before after differ sound none_asked none_touched =
    sym (first_false-touched m names held asked written before after differ sound)
    ∙ find_none p names (list_any_none p names passes)
  where
    p : List ℕ → Bool
    p = fails m (touched m written held) asked after

    neither : (a b c : Bool) → a ≡ false → b ≡ false → ((a || b) && c) ≡ false
    neither a b c no_a no_b = ap (λ x. (x || b) && c) no_a ∙ ap (λ x. x && c) no_b

    passes : (k : ℕ) (d : List ℕ) → k < length names → p (get_or names k d) ≡ false
    passes k d within =
        let name = get_or names k d in
        let untouched : has_name (touched m written held) name ≡ false = false_from_ne_true (has_name (touched m written held) name) (λ is. let clash : true ≡ false = sym (list_any_at (has_name (touched m written held)) names k d within is) ∙ none_touched in absurd (cc)) in
        let unasked : has_name asked name ≡ false = ap (λ o. option_map_or (has_name asked) o false) (sym (slice_get-get_or names k d within)) ∙ sym (none_asked k) ∙ has_index-zero k in
        neither (has_name (touched m written held) name) (has_name asked name) (not (holds m after name)) untouched unasked
