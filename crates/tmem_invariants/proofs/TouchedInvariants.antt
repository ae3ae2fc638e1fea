-- Testing what is touched is testing all.
use Rattle.std.proofs.Common.{◌≡◌, ℕ, ℤ, Bool, true, false, not, ◌||◌, ◌&&◌, bytes_eq, List, [], ◌∷◌, IsTrue, refl, sym, ap, ◌∙◌}
use Rattle.std.proofs.lemmas.Bool.{or_parts}
use Rattle.std.proofs.lemmas.Map.Views.{any-filter_same}
use Rattle.std.proofs.lemmas.Slice.Eq.{bytes_eq-Decides}
use Rattle.tmem_invariants.specs.Meanings.{Meanings, AllHold, DifferInWritten, fails, first_false, has_written, holds, is_written, touched, touches, value_of, values_at}
use Rattle.tmem_invariants.specs.TableNames.{has_name}
use Rattle.tmem_invariants.proofs.Among.{All-at_name}
use Rattle.tmem_invariants.proofs.Scans.{find_same}

-- a name is among the touched ones where it is among them all, and is touched
pub has_name-touched : (m : Meanings) (written : List (ℕ × ℤ)) (names : List (List ℕ)) (name : List ℕ) → has_name (touched m written names) name ≡ (touches m written name && has_name names name)
has_name-touched m written names name =
    any-filter_same (λ other. bytes_eq other name) (touches m written) (touches m written name) (λ other is. ap (touches m written) ((bytes_eq-Decides other name).0 is)) names

-- no variable of a footprint is written, so its values are the same
pub values_at_same : (written : List (ℕ × ℤ)) (before after : List ℤ) → DifferInWritten written before after → (footprint : List ℕ) → has_written written footprint ≡ false → values_at after footprint ≡ values_at before footprint
values_at_same written before after differ [] none = refl
values_at_same written before after differ (var ∷ vars) none =
    let parts = or_parts (is_written written var) (has_written written vars) none in
    ap (λ value. value ∷ values_at after vars) (differ.others var parts.0)
    ∙ ap (λ values. value_of before var ∷ values) (values_at_same written before after differ vars parts.1)

-- a registered name that is not touched still holds
still_holds : (m : Meanings) (registered : List (List ℕ)) (written : List (ℕ × ℤ)) (before after : List ℤ) → DifferInWritten written before after → AllHold m registered before → (name : List ℕ) → has_name registered name ≡ true → touches m written name ≡ false → holds m after name ≡ true
still_holds m registered written before after differ held name among untouched =
    let was : holds m before name ≡ true = All-at_name (λ n. IsTrue (holds m before n)) registered name held among in
    ap (m.test name) (values_at_same written before after differ (m.footprint name) untouched) ∙ was

-- whether it is tested makes no difference where it holds
tested_or_holds : (touched registered proposed false_now : Bool) → (registered ≡ true → touched ≡ false → false_now ≡ false) → (((touched && registered) || proposed) && false_now) ≡ ((registered || proposed) && false_now)
tested_or_holds true registered proposed false_now held = refl
tested_or_holds false false proposed false_now held = refl
tested_or_holds false true true false_now held = refl
tested_or_holds false true false false_now held = sym (held refl refl)

-- one answer, where the registered names held before the writes
pub first_false-touched : (m : Meanings) (names registered proposed : List (List ℕ)) (written : List (ℕ × ℤ)) (before after : List ℤ) → DifferInWritten written before after → AllHold m registered before → first_false m names (touched m written registered) proposed after ≡ first_false m names registered proposed after
first_false-touched m names registered proposed written before after differ held =
    find_same (fails m (touched m written registered) proposed after) (fails m registered proposed after) same names
  where
    same : (name : List ℕ) → fails m (touched m written registered) proposed after name ≡ fails m registered proposed after name
    same name =
        ap (λ b. (b || has_name proposed name) && not (holds m after name)) (has_name-touched m written registered name)
        ∙ tested_or_holds (touches m written name) (has_name registered name) (has_name proposed name) (not (holds m after name)) (λ among untouched. ap not (still_holds m registered written before after differ held name among untouched))
