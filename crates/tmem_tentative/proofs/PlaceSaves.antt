-- The save of a choice that is entered, and those of the choices inside its first branch.
use Rattle.std.proofs.Common.{◌≡◌, ℕ, ◌+◌, ◌-◌, ◌<◌, true, List, [], ◌∷◌, ◌++◌, take, drop, length, ap, ◌∙◌, arith, append-nil}
use Rattle.std.proofs.lemmas.List.{take_all, drop_all}
use borrow.Rule.Slice.PartMut.{post_of}
use Rattle.tmem_tentative.specs.declared.save.Save.{Save}
use Rattle.tmem_tentative.specs.Places.{Place, EntersChoice}

-- all but the first, as the code parts them
abbrev pub inside : List Save → List Save
inside saves = take (length saves - 1) (drop 1 saves)

-- the first and these behind it, as the code puts them together
abbrev pub joined : List Save → List Save → List Save
joined saves inner = take 1 saves ++ (inner ++ post_of 1 (length saves - 1) saves)

-- a choice is entered by its first branch
pub record EntersFirst (before : Place) (left : List ℕ) (saves : List Save) : Type 0 where
  pub head : Save
  pub tail : List Save
  pub enters : EntersChoice before.path (record { registers = before.registers; effect = before.effect }) before.saves true left (head ∷ tail)
  pub some : 0 < length before.saves
  pub long : length before.saves ≡ 1 + length tail
  pub inner : inside saves ≡ tail
  pub all : (inner : List Save) → joined saves inner ≡ head ∷ inner

pub enters_first : (before : Place) (left : List ℕ) (saves : List Save) → 0 < length before.saves → length saves ≡ length before.saves
    → EntersChoice before.path (record { registers = before.registers; effect = before.effect }) before.saves true left saves → EntersFirst before left saves
enters_first before left [] some same e = absurd (omega arith)
enters_first before left (save ∷ saves) some same e = record {
  head = save;
  tail = saves;
  enters = e;
  some = some;
  long = omega (arith, same);
  inner = take_all (length (save ∷ saves) - 1) saves (omega arith);
  all = λ inner. ap (λ l. save ∷ (inner ++ l)) (drop_all (length (save ∷ saves) - 1) saves (omega arith)) ∙ ap (λ l. save ∷ l) (append-nil inner);
}
