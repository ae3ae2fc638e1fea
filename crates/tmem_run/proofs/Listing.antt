-- Texts with commas between them, as they are printed one by one.
use Rattle.std.proofs.Common.{◌≡◌, ℕ, zero, suc, ◌+◌, ◌<◌, Bool, true, false, nat_eq, cond, List, [], ◌∷◌, ◌++◌, map, filter, take, length, get_or, codes, Option, refl, sym, ap, subst, ◌∙◌, append_assoc, append-nil, arith}
use Rattle.std.specs.List.{range_with_len}
use Rattle.std.proofs.lemmas.Bool.Decides.{nat_tests}
use Rattle.std.proofs.lemmas.List.Elements.{filter_more}
use Rattle.std.proofs.lemmas.List.FromFn.{map-range_with_len_more}
use Rattle.std.specs.Io.KnownBytes.{Appends}
use Rattle.tmem_run.specs.Printed.{listed}
use Rattle.tmem_run.proofs.Laws.{Appends-then}

-- whether none stands before
abbrev pub is_none : List (List ℕ) → Bool
is_none [] = true
is_none (x ∷ xs) = false

-- what stands before one text more
abbrev pub comma : Bool → List ℕ
comma is_first = cond is_first (codes "") (codes ",")

-- one text more
pub listed-more : (xs : List (List ℕ)) (y : List ℕ) → listed (xs ++ y ∷ []) ≡ listed xs ++ (comma (is_none xs) ++ y)
listed-more [] y = refl
listed-more (x ∷ []) y = refl
listed-more (x ∷ z ∷ xs) y = ap (λ t. x ++ (44 ∷ t)) (listed-more (z ∷ xs) y) ∙ sym (append_assoc x (44 ∷ listed (z ∷ xs)) (comma false ++ y))

not_zero : (n : ℕ) → nat_eq (suc n) 0 ≡ false
not_zero n = grind (arith, nat_tests)

none_before : (f : ℕ → List ℕ) (n : ℕ) → is_none (map f (range_with_len 0 n)) ≡ nat_eq n 0
none_before f zero = refl
none_before f (suc n) = sym (not_zero n)

-- the values of one variable more
pub listed-range_more : (f : ℕ → List ℕ) (n : ℕ) → listed (map f (range_with_len 0 (n + 1))) ≡ listed (map f (range_with_len 0 n)) ++ (comma (nat_eq n 0) ++ f n)
listed-range_more f n =
    ap listed (map-range_with_len_more f 0 n n (omega arith)) ∙ listed-more (map f (range_with_len 0 n)) (f n) ∙ ap (λ b. listed (map f (range_with_len 0 n)) ++ (comma b ++ f n)) (none_before f n)

-- a name that is not registered is passed over
pub filter-passed : (p : List ℕ → Bool) (xs : List (List ℕ)) (i : ℕ) (d : List ℕ) → i < length xs → p (get_or xs i d) ≡ false → filter p (take (i + 1) xs) ≡ filter p (take i xs)
filter-passed p xs i d below is = filter_more p xs i d below ∙ ap (λ b. filter p (take i xs) ++ cond b (get_or xs i d ∷ []) []) is ∙ append-nil (filter p (take i xs))

-- one that is registered is printed
pub filter-taken : (p : List ℕ → Bool) (xs : List (List ℕ)) (i : ℕ) (d : List ℕ) → i < length xs → p (get_or xs i d) ≡ true → filter p (take (i + 1) xs) ≡ filter p (take i xs) ++ get_or xs i d ∷ []
filter-taken p xs i d below is = filter_more p xs i d below ∙ ap (λ b. filter p (take i xs) ++ cond b (get_or xs i d ∷ []) []) is

-- none stands before no longer
pub is_none-more : (xs : List (List ℕ)) (y : List ℕ) → is_none (xs ++ y ∷ []) ≡ false
is_none-more [] y = refl
is_none-more (x ∷ xs) y = refl

-- what is written once the value of one variable more was printed
pub values_written : (f : ℕ → List ℕ) (n : ℕ) (before mid after : Option (List ℕ)) (b : Bool) (text : List ℕ) → b ≡ nat_eq n 0 → text ≡ f n → Appends before mid (listed (map f (range_with_len 0 n))) → Appends mid after (comma b ++ text) → Appends before after (listed (map f (range_with_len 0 (n + 1))))
values_written f n before mid after b text first is so now =
    let item : comma b ++ text ≡ comma (nat_eq n 0) ++ f n = ap (λ c. comma c ++ text) first ∙ ap (λ t. comma (nat_eq n 0) ++ t) is in
    subst (Appends before after) (sym (listed-range_more f n)) (Appends-then before mid after (listed (map f (range_with_len 0 n))) (comma (nat_eq n 0) ++ f n) so (subst (Appends mid after) item now))

-- what is written once a name that is registered was printed
pub name_written : (p : List ℕ → Bool) (xs : List (List ℕ)) (i : ℕ) (d : List ℕ) (before mid after : Option (List ℕ)) (b : Bool) → i < length xs → p (get_or xs i d) ≡ true → Appends before mid (listed (filter p (take i xs))) × (b ≡ is_none (filter p (take i xs))) → Appends mid after (comma b ++ get_or xs i d) → Appends before after (listed (filter p (take (i + 1) xs))) × (false ≡ is_none (filter p (take (i + 1) xs)))
name_written p xs i d before mid after b below is so now =
    let x = get_or xs i d in
    let done = filter p (take i xs) in
    let taken : filter p (take (i + 1) xs) ≡ done ++ x ∷ [] = filter-taken p xs i d below is in
    let item : comma b ++ x ≡ comma (is_none done) ++ x = ap (λ c. comma c ++ x) so.1 in
    let both : Appends before after (listed (done ++ x ∷ [])) = subst (Appends before after) (sym (listed-more done x)) (Appends-then before mid after (listed done) (comma (is_none done) ++ x) so.0 (subst (Appends mid after) item now)) in
    (subst (λ t. Appends before after (listed t)) (sym taken) both, sym (ap is_none taken ∙ is_none-more done x))

-- and once one that is not was passed over
pub name_passed : (p : List ℕ → Bool) (xs : List (List ℕ)) (i : ℕ) (d : List ℕ) (before mid : Option (List ℕ)) (b : Bool) → i < length xs → p (get_or xs i d) ≡ false → Appends before mid (listed (filter p (take i xs))) × (b ≡ is_none (filter p (take i xs))) → Appends before mid (listed (filter p (take (i + 1) xs))) × (b ≡ is_none (filter p (take (i + 1) xs)))
name_passed p xs i d before mid b below is so =
    let same = sym (filter-passed p xs i d below is) in
    (subst (λ t. Appends before mid (listed t)) same so.0, so.1 ∙ ap is_none same)
