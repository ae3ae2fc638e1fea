-- What a store has at one moment, as a desk tells it.
use Rattle.std.proofs.Common.{◌≡◌, ℕ, zero, suc, ℤ, pos, ◌<◌, ◌≤◌, ◌+◌, List, [], ◌∷◌, ◌++◌, length, map, take, get_or, Option, Some, refl, ap, sym, ◌∙◌, arith}
use Rattle.std.specs.Prelude.{slice_get, unwrap_or}
use Rattle.std.proofs.lemmas.List.{take_all, map_push, map_more, length-map}
use Rattle.tmem_desk.specs.Held.{first_numbers}

-- what stands at an index
at_some : (xs : List ℤ) (n : ℕ) → n < length xs → slice_get xs n ≡ Some (get_or xs n (pos 0))
at_some [] n below = absurd (omega arith)
at_some (x ∷ xs) zero below = refl
at_some (x ∷ xs) (suc n) below = at_some xs n (omega arith)

-- what stands at the first so many indices
at_first : (xs : List ℤ) (n : ℕ) → n ≤ length xs → map (λ (var : ℕ). slice_get xs var) (first_numbers n) ≡ map (λ (x : ℤ). Some x) (take n xs)
at_first xs zero most = refl
at_first xs (suc n) most =
    let one : suc n ≡ n + 1 = omega arith in
    map_push (λ (var : ℕ). slice_get xs var) (first_numbers n) n
    ∙ (ap (λ (l : List (Option ℤ)). l ++ slice_get xs n ∷ []) (at_first xs n (omega arith))
    ∙ (ap (λ (o : Option ℤ). map (λ (x : ℤ). Some x) (take n xs) ++ o ∷ []) (at_some xs n (omega arith))
    ∙ (sym (map_more (λ (x : ℤ). Some x) xs n (pos 0) (omega arith)) ∙ ap (λ (k : ℕ). map (λ (x : ℤ). Some x) (take k xs)) (sym one))))

without_some : (xs : List ℤ) → map (λ (o : Option ℤ). unwrap_or o (pos 0)) (map (λ (x : ℤ). Some x) xs) ≡ xs
without_some [] = refl
without_some (x ∷ xs) = ap (λ (l : List ℤ). x ∷ l) (without_some xs)

-- the values of all variables are all values
pub all_values : (xs values : List ℤ) (n : ℕ) → n ≡ length xs → map (λ (x : ℤ). Some x) values ≡ map (λ (var : ℕ). slice_get xs var) (first_numbers n) → values ≡ xs
all_values xs values n long same =
    let whole : map (λ (x : ℤ). Some x) values ≡ map (λ (x : ℤ). Some x) xs =
    same ∙ (at_first xs n (omega (arith, long)) ∙ ap (λ (l : List ℤ). map (λ (x : ℤ). Some x) l) (take_all n xs (omega (arith, long)))) in
    sym (without_some values) ∙ (ap (λ (l : List (Option ℤ)). map (λ (o : Option ℤ). unwrap_or o (pos 0)) l) whole ∙ without_some xs)

-- as many values as variables
pub as_many : (values : List ℤ) (vars : List ℕ) (f : ℕ → Option ℤ) → map (λ (x : ℤ). Some x) values ≡ map f vars → length values ≡ length vars
as_many values vars f same = sym (length-map values (λ (x : ℤ). Some x)) ∙ (ap length same ∙ length-map vars f)

-- the values beside variables
pub some_values : (pairs : List (ℕ × ℤ)) (values : List ℤ) (all : List (Option ℤ)) → map (λ (p : ℕ × ℤ). p.1) pairs ≡ values → map (λ (x : ℤ). Some x) values ≡ all → map (λ (p : ℕ × ℤ). Some p.1) pairs ≡ all
some_values pairs values all these are = both pairs ∙ (ap (λ (l : List ℤ). map (λ (x : ℤ). Some x) l) these ∙ are)
  where
    both : (ps : List (ℕ × ℤ)) → map (λ (p : ℕ × ℤ). Some p.1) ps ≡ map (λ (x : ℤ). Some x) (map (λ (p : ℕ × ℤ). p.1) ps)
    both [] = refl
    both (p ∷ ps) = ap (λ (l : List (Option ℤ)). Some p.1 ∷ l) (both ps)
