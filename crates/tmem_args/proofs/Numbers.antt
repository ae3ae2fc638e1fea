-- Numbers of a command line.
use Rattle.std.proofs.Common.{◌≡◌, ℕ, List, Option, Some, None, Result, Ok, Err, refl, sym, ap, subst, ◌∙◌}
use Rattle.std.specs.Prelude.{unwrap_or}
use Rattle.std.specs.Str.Parse.{ParsesUnsigned}
use Rattle.clap.specs.Matches.{ReadsOne}
use Rattle.clap.specs.Walk.{Text}
use Rattle.tmem_args.specs.CommandLine.{IsNumberIfAny, IsNumberOf}

module _ (E : Type 0) (G : List ℕ → Result ℕ E → Type 0) (only : (u : List ℕ) (x : Result ℕ E) → G u x → ParsesUnsigned 16 10 u x) where
  -- what a text is read as is its number
  of_text : (text : Text) (r : Option ℕ) → ReadsOne G text r → IsNumberOf (Some text) (unwrap_or r 0)
  of_text text (Some v) read = λ numeral fits. (only text (Ok v) read).1
  of_text text None read = λ numeral fits. absurd (only text (Err read.0) read.1 (numeral, fits))

  pub read_number : (o : Option Text) (r : Option ℕ) (n : ℕ) → (o ≡ None → r ≡ None) → ((text : Text) → o ≡ Some text → ReadsOne G text r) → n ≡ unwrap_or r 0 → IsNumberOf o n
  read_number None r n none some is = is ∙ ap (λ (x : Option ℕ). unwrap_or x 0) (none refl)
  read_number (Some text) r n none some is = subst (λ (k : ℕ). IsNumberOf (Some text) k) (sym is) (of_text text r (some text refl))

  -- the same where there may be none
  of_any : (text : Text) (r : Option ℕ) → ReadsOne G text r → IsNumberIfAny (Some text) r
  of_any text (Some v) read = λ numeral fits. ap Some (only text (Ok v) read).1
  of_any text None read = λ numeral fits. absurd (only text (Err read.0) read.1 (numeral, fits))

  pub read_if_any : (o : Option Text) (r : Option ℕ) → (o ≡ None → r ≡ None) → ((text : Text) → o ≡ Some text → ReadsOne G text r) → IsNumberIfAny o r
  read_if_any None r none some = none refl
  read_if_any (Some text) r none some = of_any text r (some text refl)
