-- Laws of lists of names with fewer names, and of lists that are apart.
use Rattle.std.proofs.Common.{◌≡◌, ◌≢◌, ℕ, ◌+◌, ◌<◌, ◌≤◌, Bool, true, false, cond, ◌||◌, ◌&&◌, List, [], ◌∷◌, ◌++◌, length, take, get_or, not, count_by, All, bytes_eq, refl, ap, sym, ◌∙◌, arith}
use Rattle.std.specs.List.{filter}
use Rattle.std.proofs.lemmas.Slice.Eq.{bytes_eq-Decides}
use Rattle.std.proofs.lemmas.List.{take_more}
use Rattle.std.proofs.lemmas.List.Elements.{All-push, All-filter, filter_passes}
use Rattle.std.proofs.lemmas.List.Folds.{Any-from_list_any}
use Rattle.std.proofs.lemmas.List.Kept.{AllPairs-filter}
use Rattle.std.proofs.lemmas.List.Sums.{length-filter}
use Rattle.tmem_fault.specs.Name.{IsName}
use Rattle.tmem_effect.specs.Names.{has_name, with_name, without_name, without_names, is_before, AreApart, AreAscending, AreChecks, AreRegistered}
use Rattle.tmem_effect.proofs.NamesLaws.{AreChecks-push}

bytes_eq-sym : (m n : List ℕ) → bytes_eq m n ≡ bytes_eq n m
bytes_eq-sym m n = by (bytes_eq m n) (bytes_eq n m) refl refl
  where
    by : (a b : Bool) → bytes_eq m n ≡ a → bytes_eq n m ≡ b → a ≡ b
    by true b is is' = sym ((bytes_eq-Decides n m).1 (sym ((bytes_eq-Decides m n).0 is))) ∙ is'
    by false true is is' = sym is ∙ (bytes_eq-Decides m n).1 (sym ((bytes_eq-Decides n m).0 is'))
    by false false is is' = refl

-- a name is among those that are left where it was there, and is not the one taken out
pub has_name-without_name : (ns : List (List ℕ)) (m name : List ℕ) → has_name (without_name ns m) name ≡ (not (bytes_eq m name) && has_name ns name)
has_name-without_name [] m name = none (bytes_eq m name)
  where
    none : (b : Bool) → false ≡ (not b && false)
    none true = refl
    none false = refl
has_name-without_name (n ∷ ns) m name = by (bytes_eq n m) refl (has_name-without_name ns m name)
  where
    dropped : (b c : Bool) → (not b && c) ≡ (not b && (b || c))
    dropped true c = refl
    dropped false c = refl

    kept : (b : Bool) → bytes_eq n m ≡ false → bytes_eq m name ≡ b → (bytes_eq n name || (not b && has_name ns name)) ≡ (not b && (bytes_eq n name || has_name ns name))
    kept true apart is = ap (λ (c : Bool). c || false) (ap (λ (l : List ℕ). bytes_eq n l) (sym ((bytes_eq-Decides m name).0 is)) ∙ apart)
    kept false apart is = refl

    by : (b : Bool) → bytes_eq n m ≡ b → has_name (without_name ns m) name ≡ (not (bytes_eq m name) && has_name ns name) →
        has_name (cond (not b) (n ∷ without_name ns m) (without_name ns m)) name ≡ (not (bytes_eq m name) && (bytes_eq n name || has_name ns name))
    by true is h = h ∙ dropped (bytes_eq m name) (has_name ns name) ∙ ap (λ (l : List ℕ). not (bytes_eq m name) && (bytes_eq l name || has_name ns name)) (sym ((bytes_eq-Decides n m).0 is))
    by false is h = ap (λ (c : Bool). bytes_eq n name || c) h ∙ kept (bytes_eq m name) is refl

pub has_name-without_names : (ns ms : List (List ℕ)) (name : List ℕ) → has_name (without_names ns ms) name ≡ (not (has_name ms name) && has_name ns name)
has_name-without_names ns [] name = refl
has_name-without_names ns (m ∷ ms) name =
    has_name-without_names (without_name ns m) ms name ∙ ap (λ (b : Bool). not (has_name ms name) && b) (has_name-without_name ns m name) ∙ both (bytes_eq m name) (has_name ms name) (has_name ns name)
  where
    both : (a b c : Bool) → (not b && (not a && c)) ≡ (not (a || b) && c)
    both true true c = refl
    both true false c = refl
    both false true c = refl
    both false false c = refl

-- of all that were there those are left that are not taken out, in their order
without_both : (ns ms : List (List ℕ)) (m : List ℕ) → filter (λ n. not (has_name ms n)) (without_name ns m) ≡ filter (λ n. not (has_name (m ∷ ms) n)) ns
without_both [] ms m = refl
without_both (n ∷ ns) ms m = by (bytes_eq n m) (has_name ms n) refl refl (without_both ns ms m)
  where
    by : (a b : Bool) → bytes_eq n m ≡ a → has_name ms n ≡ b → filter (λ x. not (has_name ms x)) (without_name ns m) ≡ filter (λ x. not (has_name (m ∷ ms) x)) ns →
        filter (λ x. not (has_name ms x)) (cond (not a) (n ∷ without_name ns m) (without_name ns m)) ≡ cond (not (bytes_eq m n || b)) (n ∷ filter (λ x. not (has_name (m ∷ ms) x)) ns) (filter (λ x. not (has_name (m ∷ ms) x)) ns)
    by true b is has h = h ∙ ap (λ (c : Bool). cond (not (c || b)) (n ∷ filter (λ x. not (has_name (m ∷ ms) x)) ns) (filter (λ x. not (has_name (m ∷ ms) x)) ns)) (sym (bytes_eq-sym m n ∙ is))
    by false b is has h =
        ap (λ (c : Bool). cond (not c) (n ∷ filter (λ x. not (has_name ms x)) (without_name ns m)) (filter (λ x. not (has_name ms x)) (without_name ns m))) has
        ∙ ap (λ l. cond (not b) (n ∷ l) l) h
        ∙ ap (λ (c : Bool). cond (not (c || b)) (n ∷ filter (λ x. not (has_name (m ∷ ms) x)) ns) (filter (λ x. not (has_name (m ∷ ms) x)) ns)) (sym (bytes_eq-sym m n ∙ is))

all_kept : (ns : List (List ℕ)) → ns ≡ filter (λ n. not (has_name [] n)) ns
all_kept [] = refl
all_kept (n ∷ ns) = ap (λ l. n ∷ l) (all_kept ns)

pub without_names-filter : (ns ms : List (List ℕ)) → without_names ns ms ≡ filter (λ n. not (has_name ms n)) ns
without_names-filter ns [] = all_kept ns
without_names-filter ns (m ∷ ms) = without_names-filter (without_name ns m) ms ∙ without_both ns ms m

-- names out of names
pub without_names-append : (ns ms ls : List (List ℕ)) → without_names ns (ms ++ ls) ≡ without_names (without_names ns ms) ls
without_names-append ns [] ls = refl
without_names-append ns (m ∷ ms) ls = without_names-append (without_name ns m) ms ls

-- one name more out of them
pub without_names-next : (ns ms : List (List ℕ)) (k : ℕ) (d : List ℕ) → k < length ms →
    without_names ns (take (k + 1) ms) ≡ without_name (without_names ns (take k ms)) (get_or ms k d)
without_names-next ns ms k d below = ap (λ xs. without_names ns xs) (take_more ms k d below) ∙ without_names-append ns (take k ms) (get_or ms k d ∷ [])

pub length-without_names : (ns ms : List (List ℕ)) → length (without_names ns ms) ≡ count_by (λ n. not (has_name ms n)) ns
length-without_names ns ms = ap length (without_names-filter ns ms) ∙ length-filter (λ n. not (has_name ms n)) ns

pub length-without_name-le : (ns : List (List ℕ)) (name : List ℕ) → length (without_name ns name) ≤ length ns
length-without_name-le [] name = omega arith
length-without_name-le (n ∷ ns) name = by (bytes_eq n name) (length-without_name-le ns name)
  where
    by : (b : Bool) → length (without_name ns name) ≤ length ns → length (cond (not b) (n ∷ without_name ns name) (without_name ns name)) ≤ length (n ∷ ns)
    by true h = omega arith
    by false h = omega arith

pub length-without_names-le : (ns ms : List (List ℕ)) → length (without_names ns ms) ≤ length ns
length-without_names-le ns [] = omega arith
length-without_names-le ns (m ∷ ms) = omega (arith, length-without_names-le (without_name ns m) ms, length-without_name-le ns m)

-- what holds of each name holds of those that are left
pub All-without_names : (P : List ℕ → Type 0) (ns ms : List (List ℕ)) → All P ns → All P (without_names ns ms)
All-without_names P ns [] all = all
All-without_names P ns (m ∷ ms) all = All-without_names P (without_name ns m) ms (All-filter (λ n. not (bytes_eq n m)) P ns all)

pub AreChecks-without_name : (ns : List (List ℕ)) (name : List ℕ) → AreChecks ns → AreChecks (without_name ns name)
AreChecks-without_name ns name are = record {
  few = omega (arith, length-without_name-le ns name, are.few);
  names = All-filter (λ n. not (bytes_eq n name)) IsName ns are.names;
  distinct = AllPairs-filter (λ (m n : List ℕ). m ≢ n) (λ n. not (bytes_eq n name)) ns are.distinct;
}

pub AreRegistered-without_name : (ns : List (List ℕ)) (name : List ℕ) → AreRegistered ns → AreRegistered (without_name ns name)
AreRegistered-without_name ns name are = record {
  few = omega (arith, length-without_name-le ns name, are.few);
  names = All-filter (λ n. not (bytes_eq n name)) IsName ns are.names;
  ascending = AllPairs-filter (λ (m n : List ℕ). is_before m n ≡ true) (λ n. not (bytes_eq n name)) ns are.ascending;
}

pub AreRegistered-without_names : (ns ms : List (List ℕ)) → AreRegistered ns → AreRegistered (without_names ns ms)
AreRegistered-without_names ns [] are = are
AreRegistered-without_names ns (m ∷ ms) are = AreRegistered-without_names (without_name ns m) ms (AreRegistered-without_name ns m are)

pub AreAscending-without_names : (ns ms : List (List ℕ)) → AreAscending ns → AreAscending (without_names ns ms)
AreAscending-without_names ns [] up = up
AreAscending-without_names ns (m ∷ ms) up = AreAscending-without_names (without_name ns m) ms (AllPairs-filter (λ (l n : List ℕ). is_before l n ≡ true) (λ n. not (bytes_eq n m)) ns up)

-- a name is new beside those that are left where it was not there, or is taken out
pub is_new : (held retired : List (List ℕ)) (name : List ℕ) → not (has_name (without_names held retired) name) ≡ (not (has_name held name) || has_name retired name)
is_new held retired name = ap not (has_name-without_names held retired name) ∙ by (has_name retired name) (has_name held name)
  where
    by : (a b : Bool) → not (not a && b) ≡ (not b || a)
    by true true = refl
    by true false = refl
    by false true = refl
    by false false = refl

-- one name more, at the end unless it is there
has_name-push : (ns : List (List ℕ)) (m name : List ℕ) → has_name (ns ++ m ∷ []) name ≡ (bytes_eq m name || has_name ns name)
has_name-push [] m name = refl
has_name-push (n ∷ ns) m name = ap (λ (b : Bool). bytes_eq n name || b) (has_name-push ns m name) ∙ swapped (bytes_eq n name) (bytes_eq m name) (has_name ns name)
  where
    swapped : (a b c : Bool) → (a || (b || c)) ≡ (b || (a || c))
    swapped true true c = refl
    swapped true false c = refl
    swapped false true c = refl
    swapped false false c = refl

pub has_name-with_name : (ns : List (List ℕ)) (m name : List ℕ) → has_name (with_name ns m) name ≡ (bytes_eq m name || has_name ns name)
has_name-with_name ns m name = by (has_name ns m) refl
  where
    there : (b : Bool) → bytes_eq m name ≡ b → has_name ns m ≡ true → has_name ns name ≡ (b || has_name ns name)
    there true is has = ap (λ (n : List ℕ). has_name ns n) (sym ((bytes_eq-Decides m name).0 is)) ∙ has
    there false is has = refl

    by : (b : Bool) → has_name ns m ≡ b → has_name (cond b ns (ns ++ m ∷ [])) name ≡ (bytes_eq m name || has_name ns name)
    by true is = there (bytes_eq m name) refl is
    by false is = has_name-push ns m name

pub All-with_name : (P : List ℕ → Type 0) (ns : List (List ℕ)) (name : List ℕ) → All P ns → P name → All P (with_name ns name)
All-with_name P ns name all here = by (has_name ns name)
  where
    by : (b : Bool) → All P (cond b ns (ns ++ name ∷ []))
    by true = all
    by false = All-push P ns name all here

pub AreChecks-with_name : (ns : List (List ℕ)) (name : List ℕ) → (has_name ns name ≡ false → length ns < 8) → IsName name → AreChecks ns → AreChecks (with_name ns name)
AreChecks-with_name ns name room is are = by (has_name ns name) refl
  where
    by : (b : Bool) → has_name ns name ≡ b → AreChecks (cond b ns (ns ++ name ∷ []))
    by true has = are
    by false absent = AreChecks-push ns name absent (room absent) is are

-- apart

pub AreApart-none : (ns : List (List ℕ)) → AreApart ns []
AreApart-none ns k d below = refl

-- a name of the first list is none of the second
pub apart_has : (ns ms : List (List ℕ)) (name : List ℕ) → AreApart ns ms → has_name ns name ≡ true → has_name ms name ≡ false
apart_has ns ms name apart has =
    let any = Any-from_list_any (λ (n : List ℕ). bytes_eq n name) ns has in
    ap (λ (n : List ℕ). has_name ms n) (sym (any.3 ∙ (bytes_eq-Decides any.1 name).0 any.4)) ∙ apart any.0 any.1 any.2

-- a name that is checked is no longer retired, and one that is retired is no longer checked
pub AreApart-check : (ns ms : List (List ℕ)) (name : List ℕ) → AreApart ns ms → AreApart (with_name ns name) (without_name ms name)
AreApart-check ns ms name apart =
    All-with_name (λ n. has_name (without_name ms name) n ≡ false) ns name (λ k d below. has_name-without_name ms name _ ∙ other (bytes_eq name _) (apart k d below)) (has_name-without_name ms name name ∙ itself (bytes_eq name name) ((bytes_eq-Decides name name).1 refl))
  where
    other : (b : Bool) {c : Bool} → c ≡ false → (not b && c) ≡ false
    other true is = refl
    other false is = is

    itself : (b : Bool) → b ≡ true → (not b && has_name ms name) ≡ false
    itself true is = refl
    itself false is = cc

pub AreApart-retire : (ns ms : List (List ℕ)) (name : List ℕ) → AreApart ns ms → AreApart (without_name ns name) (with_name ms name)
AreApart-retire ns ms name apart k d below =
    has_name-with_name ms name _ ∙ neither (bytes_eq name _) (bytes_eq-sym name _ ∙ passed (bytes_eq _ name) (filter_passes (λ n. not (bytes_eq n name)) ns k d below)) (All-filter (λ n. not (bytes_eq n name)) (λ n. has_name ms n ≡ false) ns apart k d below)
  where
    neither : (b : Bool) {c : Bool} → b ≡ false → c ≡ false → (b || c) ≡ false
    neither true is is' = cc
    neither false is is' = is'

    passed : (b : Bool) → not b ≡ true → b ≡ false
    passed true is = cc
    passed false is = refl
