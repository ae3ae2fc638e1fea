-- Laws of lists of names: with one name more, and with more names.
use Rattle.std.proofs.Common.{◌≡◌, ◌≢◌, ℕ, ◌+◌, ◌<◌, ◌≤◌, suc, zero, Bool, true, false, cond, ◌||◌, List, [], ◌∷◌, ◌++◌, length, take, drop, get_or, insert, not, count_by, All, AllPairs, bytes_eq, refl, ap, sym, ◌∙◌, arith, length-append}
use Rattle.std.proofs.Math.Numerals.{one-add}
use Rattle.std.specs.List.{prefix_len}
use Rattle.std.specs.Ordering.{nat_cmp, is_lt, is_eq, ordering_reverse}
use Rattle.std.specs.declared.cmp.Ordering.{Ordering}
use Rattle.std.specs.declared.cmp.Ordering.TheVariants.{Less, Equal, Greater}
use Rattle.std.specs.Cmp.Lexicographic.{slice_cmp, nat_list_cmp_total}
use Rattle.std.proofs.lemmas.Slice.Eq.{bytes_eq-Decides}
use Rattle.std.proofs.lemmas.Map.Text.{is_eq-slice_cmp}
use Rattle.std.proofs.lemmas.List.{take_more, take-append-drop}
use Rattle.std.proofs.lemmas.List.Elements.{All-push, All-cons, All-nil, All-head, All-tail}
use Rattle.std.proofs.lemmas.List.Kept.{AllPairs-cons}
use Rattle.std.proofs.lemmas.List.Quantifiers.{all_pairs_push}
use Rattle.std.proofs.lemmas.List.Sums.{sum_by-cons}
use Rattle.tmem_fault.specs.Name.{IsName}
use Rattle.tmem_fault.specs.Distinct.{AreDistinct}
use Rattle.tmem_effect.specs.Names.{has_name, is_before, at_its_place, insert_name, with_names, AreAscending, AreChecks, AreRegistered}

-- what holds of the pairs of a list holds of its first element beside the rest, and of the pairs of the rest
pub AllPairs-head : {X : Type 0} (R : X → X → Type 0) (x : X) (xs : List X) → AllPairs R (x ∷ xs) → All (R x) xs
AllPairs-head R x xs all k d below = all 0 (suc k) d (omega arith) (omega arith)

pub AllPairs-tail : {X : Type 0} (R : X → X → Type 0) (x : X) (xs : List X) → AllPairs R (x ∷ xs) → AllPairs R xs
AllPairs-tail R x xs all i j d order below = all (suc i) (suc j) d (omega arith) (omega arith)

-- a name that is not among these is none of them
pub names-apart : (ns : List (List ℕ)) (name : List ℕ) → has_name ns name ≡ false → All (λ n. n ≢ name) ns
names-apart [] name absent k d below = elim below [ ]
names-apart (n ∷ ns) name absent zero d below = λ same. first (bytes_eq n name) ((bytes_eq-Decides n name).1 same) absent
  where
    first : (b : Bool) → b ≡ true → (b || has_name ns name) ≡ false → ⊥
    first true e h = cc
    first false e h = cc
names-apart (n ∷ ns) name absent (suc k) d below = names-apart ns name (rest (bytes_eq n name) absent) k d (omega arith)
  where
    rest : (b : Bool) → (b || has_name ns name) ≡ false → has_name ns name ≡ false
    rest true h = cc
    rest false h = h

-- no names
pub AreChecks-nil : AreChecks []
AreChecks-nil = record { few = omega arith; names = All-nil IsName; distinct = λ i j d before below. absurd (omega (arith, below)) }

-- a name more at the end
pub AreChecks-push : (ns : List (List ℕ)) (name : List ℕ) → has_name ns name ≡ false → length ns < 8 → IsName name → AreChecks ns → AreChecks (ns ++ name ∷ [])
AreChecks-push ns name absent room is_name are =
    record {
      few = omega (arith, length-append ns (name ∷ []));
      names = All-push IsName ns name are.names is_name;
      distinct = all_pairs_push (λ m n. m ≢ n) ns name are.distinct (names-apart ns name absent);
    }

-- no names are registered names
pub AreRegistered-nil : AreRegistered []
AreRegistered-nil = record { few = omega arith; names = All-nil IsName; ascending = λ i j d before below. absurd (omega (arith, below)) }

-- registered names with one more behind them, which is above each
pub AreRegistered-push : (ns : List (List ℕ)) (name : List ℕ) → All (λ (n : List ℕ). is_before n name ≡ true) ns → length ns < 64 → IsName name → AreRegistered ns → AreRegistered (ns ++ name ∷ [])
AreRegistered-push ns name below room is_name are =
    record {
      few = omega (arith, length-append ns (name ∷ []));
      names = All-push IsName ns name are.names is_name;
      ascending = all_pairs_push (λ m n. is_before m n ≡ true) ns name are.ascending below;
    }

-- a name is put behind those at the front that are below it
pub at_its_place-insert : (ns : List (List ℕ)) (name : List ℕ) → at_its_place ns name ≡ insert ns (prefix_len (λ n. is_before n name) ns) name
at_its_place-insert [] name = refl
at_its_place-insert (n ∷ ns) name = step (is_before n name) (at_its_place-insert ns name)
  where
    k : ℕ
    k = prefix_len (λ m. is_before m name) ns

    step : (b : Bool) → at_its_place ns name ≡ insert ns k name →
        cond b (n ∷ at_its_place ns name) (name ∷ n ∷ ns) ≡ insert (n ∷ ns) (cond b (1 + k) 0) name
    step true h = rw (h, one-add) refl
    step false h = refl

pub length-at_its_place : (ns : List (List ℕ)) (name : List ℕ) → length (at_its_place ns name) ≡ length ns + 1
length-at_its_place [] name = refl
length-at_its_place (n ∷ ns) name = step (is_before n name) (length-at_its_place ns name)
  where
    step : (b : Bool) → length (at_its_place ns name) ≡ length ns + 1 →
        length (cond b (n ∷ at_its_place ns name) (name ∷ n ∷ ns)) ≡ length (n ∷ ns) + 1
    step true h = omega arith
    step false h = omega arith

pub All-at_its_place : (P : List ℕ → Type 0) (ns : List (List ℕ)) (name : List ℕ) → All P ns → P name → All P (at_its_place ns name)
All-at_its_place P [] name all here = All-cons P name [] here all
All-at_its_place P (n ∷ ns) name all here = step (is_before n name) (All-at_its_place P ns name (All-tail P n ns all) here)
  where
    step : (b : Bool) → All P (at_its_place ns name) → All P (cond b (n ∷ at_its_place ns name) (name ∷ n ∷ ns))
    step true h = All-cons P n (at_its_place ns name) (All-head P n ns all) h
    step false h = All-cons P name (n ∷ ns) here all

-- a name more is the one put in, or one of the others
pub has_name-at_its_place : (ns : List (List ℕ)) (m name : List ℕ) → has_name (at_its_place ns m) name ≡ (bytes_eq m name || has_name ns name)
has_name-at_its_place [] m name = refl
has_name-at_its_place (n ∷ ns) m name = by (is_before n m) (has_name-at_its_place ns m name)
  where
    by : (b : Bool) → has_name (at_its_place ns m) name ≡ (bytes_eq m name || has_name ns name) →
        has_name (cond b (n ∷ at_its_place ns m) (m ∷ n ∷ ns)) name ≡ (bytes_eq m name || (bytes_eq n name || has_name ns name))
    by true h = ap (λ b. bytes_eq n name || b) h ∙ swapped (bytes_eq n name) (bytes_eq m name) (has_name ns name)
      where
        swapped : (a b c : Bool) → (a || (b || c)) ≡ (b || (a || c))
        swapped true true c = refl
        swapped true false c = refl
        swapped false true c = refl
        swapped false false c = refl
    by false h = refl

-- adding a name that is there tells nothing new
pub has_name-there : (ns : List (List ℕ)) (m name : List ℕ) → has_name ns m ≡ true → has_name ns name ≡ (bytes_eq m name || has_name ns name)
has_name-there ns m name there = by (bytes_eq m name) refl
  where
    by : (b : Bool) → bytes_eq m name ≡ b → has_name ns name ≡ (b || has_name ns name)
    by true is = ap (λ n. has_name ns n) (sym ((bytes_eq-Decides m name).0 is)) ∙ there
    by false is = refl

-- of two names one is below the other, or they are one
before-or-after : (m n : List ℕ) → is_before m n ≡ false → bytes_eq m n ≡ false → is_before n m ≡ true
before-or-after m n above apart =
    by (slice_cmp nat_cmp m n) above (is_eq-slice_cmp m n ∙ apart) (nat_list_cmp_total.antisymm n m)
  where
    by : (o : Ordering) → is_lt o ≡ false → is_eq o ≡ false → slice_cmp nat_cmp n m ≡ ordering_reverse o → is_before n m ≡ true
    by Less a e back = cc
    by Equal a e back = cc
    by Greater a e back = ap is_lt back

less : (o : Ordering) → is_lt o ≡ true → o ≡ Less
less Less h = refl
less Equal h = cc
less Greater h = cc

before-before : (l m n : List ℕ) → is_before l m ≡ true → is_before m n ≡ true → is_before l n ≡ true
before-before l m n first second = ap is_lt (nat_list_cmp_total.trans l m n (less _ first) (less _ second))

-- ascending names stay ascending with another at its place
pub AreAscending-at_its_place : (ns : List (List ℕ)) (name : List ℕ) → has_name ns name ≡ false → AreAscending ns → AreAscending (at_its_place ns name)
AreAscending-at_its_place [] name absent up = AllPairs-cons (λ m n. is_before m n ≡ true) name [] (λ k d below. elim below [ ]) up
AreAscending-at_its_place (n ∷ ns) name absent up =
    let rest_up = AllPairs-tail (λ l m. is_before l m ≡ true) n ns up in
    let above = AllPairs-head (λ l m. is_before l m ≡ true) n ns up in
    let apart = apart_of (bytes_eq n name) absent in
    step (is_before n name) refl apart.0 above (AreAscending-at_its_place ns name apart.1 rest_up)
  where
    apart_of : (b : Bool) → (b || has_name ns name) ≡ false → (b ≡ false) × (has_name ns name ≡ false)
    apart_of true h = cc
    apart_of false h = (refl, h)

    step : (b : Bool) → is_before n name ≡ b → bytes_eq n name ≡ false → All (λ m. is_before n m ≡ true) ns → AreAscending (at_its_place ns name) →
        AreAscending (cond b (n ∷ at_its_place ns name) (name ∷ n ∷ ns))
    step true is apart above h =
        AllPairs-cons (λ l m. is_before l m ≡ true) n (at_its_place ns name) (All-at_its_place (λ m. is_before n m ≡ true) ns name above is) h
    step false is apart above h =
        let first = before-or-after n name is apart in
        let all = All-cons (λ m. is_before name m ≡ true) n ns first (λ k d below. before-before name n (get_or ns k d) first (above k d below)) in
        AllPairs-cons (λ l m. is_before l m ≡ true) name (n ∷ ns) all up

-- registered names with another at its place
pub AreRegistered-at_its_place : (ns : List (List ℕ)) (name : List ℕ) → has_name ns name ≡ false → length ns < 64 → IsName name → AreRegistered ns → AreRegistered (at_its_place ns name)
AreRegistered-at_its_place ns name absent room is_name are =
    record {
      few = omega (arith, length-at_its_place ns name);
      names = All-at_its_place IsName ns name are.names is_name;
      ascending = AreAscending-at_its_place ns name absent are.ascending;
    }

-- ascending names are distinct
pub AreDistinct-ascending : (ns : List (List ℕ)) → AreAscending ns → AreDistinct ns
AreDistinct-ascending ns up i j d order below = λ same. itself (slice_cmp nat_cmp (get_or ns i d) (get_or ns i d)) (nat_list_cmp_total.antisymm (get_or ns i d) (get_or ns i d))
    (rw (← same) at (up i j d order below))
  where
    itself : (o : Ordering) → o ≡ ordering_reverse o → is_lt o ≡ true → ⊥
    itself Less back h = cc
    itself Equal back h = cc
    itself Greater back h = cc

-- names after names
pub with_names-append : (ns ms ls : List (List ℕ)) → with_names ns (ms ++ ls) ≡ with_names (with_names ns ms) ls
with_names-append ns [] ls = refl
with_names-append ns (m ∷ ms) ls = with_names-append (insert_name ns m) ms ls

-- an absent name makes the list longer by one
pub length-insert_name : (ns : List (List ℕ)) (name : List ℕ) → has_name ns name ≡ false → length (insert_name ns name) ≡ length ns + 1
length-insert_name ns name absent = rw absent (length-at_its_place ns name)

pub length-insert_name-le : (ns : List (List ℕ)) (name : List ℕ) → length ns ≤ length (insert_name ns name)
length-insert_name-le ns name = by (has_name ns name)
  where
    by : (b : Bool) → length ns ≤ length (cond b ns (at_its_place ns name))
    by true = omega arith
    by false = omega (arith, length-at_its_place ns name)

-- names are added, and none is taken away
pub length-with_names-le : (ns ms : List (List ℕ)) → length ns ≤ length (with_names ns ms)
length-with_names-le ns [] = omega arith
length-with_names-le ns (m ∷ ms) = omega (arith, length-insert_name-le ns m, length-with_names-le (insert_name ns m) ms)

-- where all names have room, so has the next one
pub room_for_next : (ns ms : List (List ℕ)) (k : ℕ) (d : List ℕ) → k < length ms → length (with_names ns ms) ≤ 64 →
    has_name (with_names ns (take k ms)) (get_or ms k d) ≡ false → length (with_names ns (take k ms)) < 64
room_for_next ns ms k d below room absent =
    let next : with_names ns (take (k + 1) ms) ≡ insert_name (with_names ns (take k ms)) (get_or ms k d) =
    ap (λ xs. with_names ns xs) (take_more ms k d below) ∙ with_names-append ns (take k ms) (get_or ms k d ∷ []) in
    let all : with_names ns ms ≡ with_names (with_names ns (take (k + 1) ms)) (drop (k + 1) ms) =
    ap (λ xs. with_names ns xs) (sym (take-append-drop (k + 1) ms)) ∙ with_names-append ns (take (k + 1) ms) (drop (k + 1) ms) in
    omega (arith, ap length next, ap length all, length-insert_name (with_names ns (take k ms)) (get_or ms k d) absent, length-with_names-le (with_names ns (take (k + 1) ms)) (drop (k + 1) ms))

-- no more names are added than are given
pub length-with_names-upper : (ns ms : List (List ℕ)) → length (with_names ns ms) ≤ length ns + length ms
length-with_names-upper ns [] = omega arith
length-with_names-upper ns (m ∷ ms) = omega (arith, length-with_names-upper (insert_name ns m) ms, grown (has_name ns m))
  where
    grown : (b : Bool) → length (cond b ns (at_its_place ns m)) ≤ length ns + 1
    grown true = omega arith
    grown false = omega (arith, length-at_its_place ns m)

-- a name is among those that were there and those that were added
pub has_name-insert_name : (ns : List (List ℕ)) (m name : List ℕ) → has_name (insert_name ns m) name ≡ (bytes_eq m name || has_name ns name)
has_name-insert_name ns m name = by (has_name ns m) refl
  where
    by : (b : Bool) → has_name ns m ≡ b → has_name (cond b ns (at_its_place ns m)) name ≡ (bytes_eq m name || has_name ns name)
    by true is = has_name-there ns m name is
    by false is = has_name-at_its_place ns m name

pub has_name-with_names : (ns ms : List (List ℕ)) (name : List ℕ) → has_name (with_names ns ms) name ≡ (has_name ms name || has_name ns name)
has_name-with_names ns [] name = refl
has_name-with_names ns (m ∷ ms) name =
    has_name-with_names (insert_name ns m) ms name ∙ ap (λ b. has_name ms name || b) (has_name-insert_name ns m name)
    ∙ swapped (has_name ms name) (bytes_eq m name) (has_name ns name)
  where
    swapped : (a b c : Bool) → (a || (b || c)) ≡ ((b || a) || c)
    swapped true true c = refl
    swapped true false c = refl
    swapped false true c = refl
    swapped false false c = refl

-- how many of these are not among those
abbrev new_of : List (List ℕ) → List (List ℕ) → ℕ
new_of ns ms = count_by (λ (m : List ℕ). not (has_name ns m)) ms

one_new : List (List ℕ) → List ℕ → ℕ
one_new ns m = cond (not (has_name ns m)) 1 0

one_new-there : (ns : List (List ℕ)) (m : List ℕ) → has_name ns m ≡ true → one_new ns m ≡ 0
unfolding one_new
one_new-there ns m is = ap (λ (b : Bool). cond (not b) 1 0) is

one_new-absent : (ns : List (List ℕ)) (m : List ℕ) → has_name ns m ≡ false → one_new ns m ≡ 1
unfolding one_new
one_new-absent ns m is = ap (λ (b : Bool). cond (not b) 1 0) is

one_new-same : (ns os : List (List ℕ)) (m : List ℕ) → has_name ns m ≡ has_name os m → one_new ns m ≡ one_new os m
unfolding one_new
one_new-same ns os m same = ap (λ (b : Bool). cond (not b) 1 0) same

new_of-cons : (ns : List (List ℕ)) (m : List ℕ) (ms : List (List ℕ)) → new_of ns (m ∷ ms) ≡ one_new ns m + new_of ns ms
unfolding one_new
new_of-cons ns m ms = sum_by-cons (λ (x : List ℕ). cond (not (has_name ns x)) 1 0) m ms

-- a name more makes no difference to another
has_name-other : (ns : List (List ℕ)) (m x : List ℕ) → m ≢ x → has_name (insert_name ns m) x ≡ has_name ns x
has_name-other ns m x apart = has_name-insert_name ns m x ∙ other (bytes_eq m x) refl
  where
    other : (b : Bool) → bytes_eq m x ≡ b → (b || has_name ns x) ≡ has_name ns x
    other true is = absurd (apart ((bytes_eq-Decides m x).0 is))
    other false is = refl

new_of-insert_name : (ns : List (List ℕ)) (m : List ℕ) (ms : List (List ℕ)) → All (λ (x : List ℕ). m ≢ x) ms → new_of (insert_name ns m) ms ≡ new_of ns ms
new_of-insert_name ns m [] apart = refl
new_of-insert_name ns m (x ∷ ms) apart =
    let here = one_new-same (insert_name ns m) ns x (has_name-other ns m x (All-head (λ (y : List ℕ). m ≢ y) x ms apart)) in
    let rest = new_of-insert_name ns m ms (All-tail (λ (y : List ℕ). m ≢ y) x ms apart) in
    omega (arith, new_of-cons (insert_name ns m) x ms, new_of-cons ns x ms, here, rest)

grown : (ns : List (List ℕ)) (m : List ℕ) → length (insert_name ns m) ≡ length ns + one_new ns m
grown ns m = by (has_name ns m) refl
  where
    by : (b : Bool) → has_name ns m ≡ b → length (cond b ns (at_its_place ns m)) ≡ length ns + one_new ns m
    by true is = omega (arith, one_new-there ns m is)
    by false is = omega (arith, one_new-absent ns m is, length-at_its_place ns m)

-- of distinct names each that is new is added
pub length-with_names : (ns ms : List (List ℕ)) → AreDistinct ms → length (with_names ns ms) ≡ length ns + count_by (λ (m : List ℕ). not (has_name ns m)) ms
length-with_names ns [] distinct = omega arith
length-with_names ns (m ∷ ms) distinct =
    let apart = AllPairs-head (λ (x y : List ℕ). x ≢ y) m ms distinct in
    let rest = length-with_names (insert_name ns m) ms (AllPairs-tail (λ (x y : List ℕ). x ≢ y) m ms distinct) in
    omega (arith, rest, new_of-insert_name ns m ms apart, new_of-cons ns m ms, grown ns m)

-- ascending names stay ascending
pub AreAscending-insert_name : (ns : List (List ℕ)) (name : List ℕ) → AreAscending ns → AreAscending (insert_name ns name)
AreAscending-insert_name ns name up = by (has_name ns name) refl
  where
    by : (b : Bool) → has_name ns name ≡ b → AreAscending (cond b ns (at_its_place ns name))
    by true is = up
    by false is = AreAscending-at_its_place ns name is up

pub AreAscending-with_names : (ns ms : List (List ℕ)) → AreAscending ns → AreAscending (with_names ns ms)
AreAscending-with_names ns [] up = up
AreAscending-with_names ns (m ∷ ms) up = AreAscending-with_names (insert_name ns m) ms (AreAscending-insert_name ns m up)

-- one name more
pub with_names-next : (ns ms : List (List ℕ)) (k : ℕ) (d : List ℕ) → k < length ms →
    with_names ns (take (k + 1) ms) ≡ insert_name (with_names ns (take k ms)) (get_or ms k d)
with_names-next ns ms k d below = ap (λ xs. with_names ns xs) (take_more ms k d below) ∙ with_names-append ns (take k ms) (get_or ms k d ∷ [])

-- registered names stay so with a name more, where there is room
registered-insert : (ns : List (List ℕ)) (name : List ℕ) → IsName name → length (insert_name ns name) ≤ 64 → AreRegistered ns → AreRegistered (insert_name ns name)
registered-insert ns name is_name room are = on (has_name ns name) refl room where
  on : (b : Bool) → has_name ns name ≡ b → length (cond b ns (at_its_place ns name)) ≤ 64 → AreRegistered (cond b ns (at_its_place ns name))
  on true is room = are
  on false is room = AreRegistered-at_its_place ns name is (omega (arith, room, length-at_its_place ns name)) is_name are

-- names that are added, where there is room for all
pub AreRegistered-with_names : (ns ms : List (List ℕ)) → All IsName ms → length (with_names ns ms) ≤ 64 → AreRegistered ns → AreRegistered (with_names ns ms)
AreRegistered-with_names ns [] names room are = are
AreRegistered-with_names ns (m ∷ ms) names room are =
    let next = registered-insert ns m (All-head IsName m ms names) (omega (arith, room, length-with_names-le (insert_name ns m) ms)) are in
    AreRegistered-with_names (insert_name ns m) ms (All-tail IsName m ms names) room next
