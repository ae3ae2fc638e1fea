-- What an invariant's closure answers.
use Rattle.std.specs.Prelude.{◌≡◌, ℕ, ℤ, Bool, List, length}
use Rattle.std.specs.Borrow.{Bor}
use Rattle.tmem_invariants.specs.Meanings.{Meanings}

-- the closure may be called on each list of n numbers
abbrev pub MayCall : (Bor (List ℤ) → Type 0) → ℕ → Type 0
MayCall pre n = (values : Bor (List ℤ)) → length values.now ≡ n → pre values

-- each answer on a list of n numbers is its meaning
abbrev pub Gives : (Bor (List ℤ) → Bool → Type 0) → ℕ → (List ℤ → Bool) → Type 0
Gives post n meaning =
    (values : Bor (List ℤ)) (answer : Bool) → length values.now ≡ n → post values answer → answer ≡ meaning values.now

-- there is such a meaning
abbrev pub HasMeaning : (Bor (List ℤ) → Bool → Type 0) → ℕ → Type 0
HasMeaning post n = ∥ ((meaning : List ℤ → Bool) × Gives post n meaning) ∥₁

-- a footprint is the one that is meant by a name, and each answer over it is what is meant
pub record IsMeant (m : Meanings) (name footprint : List ℕ) (post : Bor (List ℤ) → Bool → Type 0) : Type 0 where
  pub over : footprint ≡ m.footprint name
  pub answers : Gives post (length footprint) (m.test name)
