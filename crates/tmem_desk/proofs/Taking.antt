-- Lines that are taken, one after another.
use Rattle.std.proofs.Common.{◌≡◌, ◌≢◌, ℕ, Bool, true, false, nat_lt, List, [], ◌∷◌, ◌++◌, length, append_assoc, refl, ap, sym, ◌∙◌, subst, arith}
use Rattle.std.specs.Prelude.{All, MatchBool, flat_map}
use Rattle.std.proofs.lemmas.Bool.Decides.{nat_tests}
use Rattle.std.proofs.lemmas.List.{flat_map_more}
use Rattle.std.proofs.lemmas.List.Elements.{All-nil, All-push}
use Rattle.tmem_lines.specs.Lines.{line, IsUnbroken, IsLine, IsLongLine, HoldsRestOf, IsCutOff}
use Rattle.tmem_lines.specs.Views.{LinesView}
use Rattle.tmem_desk.specs.Asking.{Store}
use Rattle.tmem_desk.specs.Desks.{DeskView}
use Rattle.tmem_desk.specs.Serving.{TakesAll, TakesText, TakesShort, RefusesLong}
use Rattle.tmem_desk.specs.Steps.{LabelledSteps}
use Rattle.tmem_desk.proofs.StepLaws.{LabelledSteps-push}

-- some lines of a text were taken, and what is held is the rest
pub record TakesSome (s : Store) (text : List ℕ) (held : LinesView) (v w : DeskView) : Type 0 where
  pub texts : List (List ℕ)
  pub rest : List ℕ
  pub is : text ≡ flat_map line texts ++ rest
  pub unbroken : All IsUnbroken texts
  pub stands : HoldsRestOf held rest
  pub takes : LabelledSteps (TakesText s) texts v w

pub takes_none : (s : Store) (text : List ℕ) (held : LinesView) (v : DeskView) → HoldsRestOf held text → TakesSome s text held v v
takes_none s text held v stands = record { texts = []; rest = text; is = refl; unbroken = All-nil IsUnbroken; stands = stands; takes = refl }

-- one line more
pub takes_more : (s : Store) (text bytes : List ℕ) (held held' : LinesView) (v mid w : DeskView) → (so : TakesSome s text held v mid) → IsCutOff so.rest bytes held' → TakesText s bytes mid w → TakesSome s text held' v w
takes_more s text bytes held held' v mid w so cut taken = record {
  texts = so.texts ++ bytes ∷ [];
  rest = cut.rest;
  is = so.is ∙ (ap (λ (r : List ℕ). flat_map line so.texts ++ r) cut.is ∙ (sym (append_assoc (flat_map line so.texts) (line bytes) cut.rest) ∙ ap (λ (r : List ℕ). r ++ cut.rest) (flat_map_more line [] so.texts bytes)));
  unbroken = All-push IsUnbroken so.texts bytes so.unbroken cut.unbroken;
  stands = cut.stands;
  takes = LabelledSteps-push (TakesText s) so.texts bytes v mid w so.takes taken;
}

-- all that have ended
pub takes_all : (s : Store) (text : List ℕ) (held held' : LinesView) (v w : DeskView) → (so : TakesSome s text held v w) → IsUnbroken so.rest → HoldsRestOf held' so.rest → TakesAll s text held' v w
takes_all s text held held' v w so last stands = record {
  texts = so.texts;
  splits = record { rest = so.rest; is = so.is; unbroken = so.unbroken; last = last; stands = stands };
  takes = so.takes;
}

pub short_text : (s : Store) (bytes : List ℕ) (v w : DeskView) → IsLine bytes → TakesShort s bytes v w → TakesText s bytes v w
short_text s bytes v w short taken =
    let is : nat_lt 65536 (length bytes) ≡ false = grind (arith, nat_tests) in
    subst (λ (b : Bool). MatchBool b (RefusesLong v w) (TakesShort s bytes v w)) (sym is) taken

-- a line that is too long has a byte
pub long_some : (bytes : List ℕ) → IsLongLine bytes → bytes ≢ []
long_some bytes long none = omega (arith, long, ap length none)

pub long_text : (s : Store) (bytes : List ℕ) (v w : DeskView) → IsLongLine bytes → RefusesLong v w → TakesText s bytes v w
long_text s bytes v w long refuses =
    let is : nat_lt 65536 (length bytes) ≡ true = grind (arith, nat_tests) in
    subst (λ (b : Bool). MatchBool b (RefusesLong v w) (TakesShort s bytes v w)) (sym is) refuses
