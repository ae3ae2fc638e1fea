-- Laws of prefixes, and of what stands at a place of a list.
use Rattle.std.proofs.Common.{◌≡◌, ℕ, zero, suc, ◌<◌, ◌≤◌, Bool, true, false, nat_lt, if◌then◌else◌, List, [], ◌∷◌, ◌++◌, length, take, Some, slice_get, refl, ap, sym, ◌∙◌, arith}
use Rattle.std.proofs.lemmas.Bool.Decides.{nat_tests}
use Rattle.std.proofs.lemmas.List.{take_all, take-take, take-append-le}
use Rattle.tmem_effect.specs.Prefix.{IsPrefix}
use Rattle.tmem_effect.proofs.Laws.{IsPrefix-self, IsPrefix-length}
use Rattle.tmem_spine.specs.declared.view.MarkedEffect.{MarkedEffect}
use Rattle.tmem_spine.specs.History.{longer}

module _ {X : Type 0} where
  -- of two prefixes of one list the shorter is a prefix of the longer
  pub prefix_shorter : (xs ys zs : List X) → IsPrefix xs zs → IsPrefix ys zs → length xs ≤ length ys → IsPrefix xs ys
  prefix_shorter xs ys zs p q le =
      ap (λ (l : List X). take (length xs) l) (sym q) ∙ (take-take (length xs) (length ys) zs le ∙ p)

  pub prefix_more : (xs ys zs : List X) → IsPrefix xs ys → IsPrefix xs (ys ++ zs)
  prefix_more xs ys zs p = take-append-le (length xs) ys zs (IsPrefix-length xs ys p) ∙ p

  -- a prefix as long as the whole is the whole
  pub prefix_whole : (xs ys : List X) → IsPrefix xs ys → length ys ≤ length xs → xs ≡ ys
  prefix_whole xs ys p le = sym p ∙ take_all (length xs) ys le

  -- of an empty list there is one prefix
  pub prefix_empty : (xs ys : List X) → IsPrefix xs ys → ys ≡ [] → xs ≡ []
  prefix_empty xs ys p none = prefix_whole xs ys p (omega (arith, ap length none)) ∙ none

  get_taken : (xs : List X) (n k : ℕ) → k < n → slice_get (take n xs) k ≡ slice_get xs k
  get_taken [] zero k below = refl
  get_taken [] (suc n) k below = refl
  get_taken (x ∷ xs) zero k below = absurd (omega arith)
  get_taken (x ∷ xs) (suc n) zero below = refl
  get_taken (x ∷ xs) (suc n) (suc k) below = get_taken xs n k (omega arith)

  pub get_within : (xs : List X) (k : ℕ) (x : X) → slice_get xs k ≡ Some x → k < length xs
  get_within [] k x h = absurd (cc h)
  get_within (y ∷ xs) zero x h = omega arith
  get_within (y ∷ xs) (suc k) x h = omega (arith, get_within xs k x h)

  pub get_same : (xs ys : List X) (k : ℕ) → IsPrefix xs ys → k < length xs → slice_get xs k ≡ slice_get ys k
  get_same xs ys k p below = ap (λ (l : List X). slice_get l k) (sym p) ∙ get_taken ys (length xs) k below

  -- what stands in a prefix stands in the whole, at the same place
  pub get_more : (xs ys : List X) (k : ℕ) (x : X) → IsPrefix xs ys → slice_get xs k ≡ Some x → slice_get ys k ≡ Some x
  get_more xs ys k x p h = sym (get_same xs ys k p (get_within xs k x h)) ∙ h

  pub get_last : (xs : List X) (x : X) (k : ℕ) → k ≡ length xs → slice_get (xs ++ x ∷ []) k ≡ Some x
  get_last [] x zero e = refl
  get_last [] x (suc k) e = absurd (omega arith)
  get_last (y ∷ xs) x zero e = absurd (omega arith)
  get_last (y ∷ xs) x (suc k) e = get_last xs x k (omega arith)

longer_by : (b : Bool) (xs ys zs : List MarkedEffect) → nat_lt (length xs) (length ys) ≡ b → IsPrefix xs zs → IsPrefix ys zs
    → IsPrefix xs (if b then ys else xs) × IsPrefix ys (if b then ys else xs) × IsPrefix (if b then ys else xs) zs
longer_by true xs ys zs is p q = (prefix_shorter xs ys zs p q (grind (arith, nat_tests)), IsPrefix-self ys, q)
longer_by false xs ys zs is p q = (IsPrefix-self xs, prefix_shorter ys xs zs q p (grind (arith, nat_tests)), p)

-- of two prefixes of one history each is a prefix of the longer, which is one too
pub longer_is : (xs ys zs : List MarkedEffect) → IsPrefix xs zs → IsPrefix ys zs
    → IsPrefix xs (longer xs ys) × IsPrefix ys (longer xs ys) × IsPrefix (longer xs ys) zs
longer_is xs ys zs p q = longer_by (nat_lt (length xs) (length ys)) xs ys zs refl p q
