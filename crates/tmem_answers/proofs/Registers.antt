-- Numbers without the zeros at their end.
use Rattle.std.proofs.Common.{◌≡◌, ℕ, ℤ, pos, negsuc, FitsSigned, w64, ◌+◌, ◌-◌, ◌<◌, ◌≤◌, Bool, true, false, ◌&&◌, List, [], ◌∷◌, ◌++◌, length, get_or, take, if◌then◌else◌, refl, sym, ap, ◌∙◌, arith}
use Rattle.std.specs.List.{list_all}
use Rattle.std.specs.Ordering.{int_eq}
use Rattle.std.proofs.lemmas.Bool.{false_from_ne_true}
use Rattle.std.proofs.lemmas.Bool.Decides.{Decides-int_eq}
use Rattle.std.proofs.lemmas.Int.{ints}
use Rattle.std.proofs.lemmas.List.{take_more}
use mir.Val.{of_z}
use Rattle.tmem_answers.specs.Answers.{are_zeros, without_last_zeros}

and_true : (b : Bool) → (b && true) ≡ b
and_true true = refl
and_true false = refl

and_false : (b : Bool) → (b && false) ≡ false
and_false true = refl
and_false false = refl

true_and : (b : Bool) → (true && b) ≡ b
true_and true = refl
true_and false = refl

and_assoc : (a b c : Bool) → (a && (b && c)) ≡ ((a && b) && c)
and_assoc true true true = refl
and_assoc true true false = refl
and_assoc true false true = refl
and_assoc true false false = refl
and_assoc false b c = refl

all_push : (p : ℤ → Bool) (ns : List ℤ) (n : ℤ) → list_all p (ns ++ n ∷ []) ≡ (list_all p ns && p n)
all_push p [] n = and_true (p n) ∙ sym (true_and (p n))
all_push p (m ∷ ns) n = ap (λ b. p m && b) (all_push p ns n) ∙ and_assoc (p m) (list_all p ns) (p n)

zero_more : (ns : List ℤ) (n : ℤ) → int_eq n (pos 0) ≡ true → are_zeros (ns ++ n ∷ []) ≡ are_zeros ns
zero_more ns n zero =
    all_push (λ m. int_eq m (pos 0)) ns n ∙ ap (λ b. are_zeros ns && b) zero ∙ and_true (are_zeros ns)

other_more : (ns : List ℤ) (n : ℤ) → int_eq n (pos 0) ≡ false → are_zeros (ns ++ n ∷ []) ≡ false
other_more ns n other =
    all_push (λ m. int_eq m (pos 0)) ns n ∙ ap (λ b. are_zeros ns && b) other ∙ and_false (are_zeros ns)

branch : (b : Bool) (xs : List ℤ) → b ≡ true → (if b then [] else xs) ≡ []
branch true xs is = refl
branch false xs is = cc

other_branch : (b : Bool) (xs : List ℤ) → b ≡ false → (if b then [] else xs) ≡ xs
other_branch true xs is = cc
other_branch false xs is = refl

-- a zero at the end goes
last_zero : (ns : List ℤ) (n : ℤ) → int_eq n (pos 0) ≡ true → without_last_zeros (ns ++ n ∷ []) ≡ without_last_zeros ns
last_zero [] n zero = branch (int_eq n (pos 0) && true) (n ∷ []) (and_true (int_eq n (pos 0)) ∙ zero)
last_zero (m ∷ ns) n zero =
    ap (λ b. if b then [] else m ∷ without_last_zeros (ns ++ n ∷ [])) (zero_more (m ∷ ns) n zero)
    ∙ ap (λ (xs : List ℤ). if are_zeros (m ∷ ns) then [] else m ∷ xs) (last_zero ns n zero)

-- another number at the end keeps all
last_other : (ns : List ℤ) (n : ℤ) → int_eq n (pos 0) ≡ false → without_last_zeros (ns ++ n ∷ []) ≡ ns ++ n ∷ []
last_other [] n other = other_branch (int_eq n (pos 0) && true) (n ∷ []) (and_true (int_eq n (pos 0)) ∙ other)
last_other (m ∷ ns) n other =
    other_branch (are_zeros (m ∷ ns ++ n ∷ [])) (m ∷ without_last_zeros (ns ++ n ∷ [])) (other_more (m ∷ ns) n other)
    ∙ ap (λ xs. m ∷ xs) (last_other ns n other)

-- the first so many, where the last of them is read
taken : (ns : List ℤ) (len : ℕ) (n : ℤ) → 0 < len → len ≤ length ns → n ≡ get_or ns (len - 1) n → take len ns ≡ take (len - 1) ns ++ n ∷ []
taken ns len n some long is =
    let whole : len ≡ len - 1 + 1 = omega arith in
    ap (λ k. take k ns) whole ∙ take_more ns (len - 1) n (omega arith) ∙ ap (λ m. take (len - 1) ns ++ m ∷ []) (sym is)

pub one_less : (ns : List ℤ) (len : ℕ) (n : ℤ) → 0 < len → len ≤ length ns → n ≡ get_or ns (len - 1) n → int_eq n (pos 0) ≡ true → without_last_zeros (take (len - 1) ns) ≡ without_last_zeros (take len ns)
one_less ns len n some long is zero =
    sym (ap without_last_zeros (taken ns len n some long is) ∙ last_zero (take (len - 1) ns) n zero)

pub kept : (ns : List ℤ) (len : ℕ) (n : ℤ) → 0 < len → len ≤ length ns → n ≡ get_or ns (len - 1) n → int_eq n (pos 0) ≡ false → without_last_zeros (take len ns) ≡ take len ns
kept ns len n some long is other =
    ap without_last_zeros (taken ns len n some long is) ∙ last_other (take (len - 1) ns) n other ∙ sym (taken ns len n some long is)

-- a number that is read, by its bits
zero_bits : (n : ℤ) → FitsSigned w64 n → of_z w64 n ≡ 0 → n ≡ pos 0
zero_bits (pos n) fits zero = ap pos zero
zero_bits (negsuc n) fits zero = absurd (first_of (omega arith, omega (arith, ints), grind (arith, ints)))

pub zero_read : (n : ℤ) → FitsSigned w64 n → of_z w64 n ≡ 0 → int_eq n (pos 0) ≡ true
zero_read n fits zero = (Decides-int_eq n (pos 0)).1 (zero_bits n fits zero)

pub other_read : (n : ℤ) → ¬ (of_z w64 n ≡ 0) → int_eq n (pos 0) ≡ false
other_read n other = false_from_ne_true (int_eq n (pos 0)) (λ yes. other (ap (of_z w64) ((Decides-int_eq n (pos 0)).0 yes)))

pub none_left : (ns : List ℤ) (len : ℕ) → len ≤ 0 → take len ns ≡ without_last_zeros (take len ns)
none_left ns len none =
    let zero : len ≡ 0 = omega arith in
    ap (λ k. take k ns) zero ∙ sym (ap (λ k. without_last_zeros (take k ns)) zero)
