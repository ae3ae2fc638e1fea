-- What is done to those that wait and to those that are kept, as contracts see it.
use Rattle.std.proofs.Common.{◌≡◌, ◌⊎◌, ◌↔◌, ℕ, ℤ, ◌<◌, ◌≤◌, Bool, true, false, ◌||◌, nat_le, nat_lt, List, [], ◌∷◌, ◌++◌, length, map, set, get_or, Option, Some, None, refl, ap, sym, ◌∙◌, subst, arith}
use Rattle.std.specs.Prelude.{MatchBool, is_some, bytes_eq, position, if◌then◌else◌}
use Rattle.std.specs.List.{remove}
use Rattle.std.specs.Ordering.{int_eq}
use Rattle.std.proofs.lemmas.Bool.{false≢true}
use Rattle.std.proofs.lemmas.Bool.Decides.{nat_tests}
use Rattle.std.proofs.lemmas.List.{map_push, length-map}
use Rattle.tmem_fault.specs.declared.fault.Fault.TheVariants as fault
use Rattle.tmem_tree.specs.declared.tx.Tx.{Tx}
use Rattle.tmem_answers.specs.declared.answer.Answer.TheVariants as answer
use Rattle.tmem_requests.specs.declared.request.RequestBody.{RequestBody}
use Rattle.tmem_requests.specs.declared.request.RequestBody.TheVariants as ask
use Rattle.tmem_forms.specs.TxForms.{tx_form}
use Rattle.tmem_desk.specs.Asking.{Store}
use Rattle.tmem_desk.specs.Desks.{DeskView}
use Rattle.tmem_desk.specs.Keeping.{kept_under, with_kept}
use Rattle.tmem_desk.specs.Leading.{first_puts}
use Rattle.tmem_desk.specs.Numbering.{with_numbers}
use Rattle.tmem_desk.specs.Serving.{HasNoPlan, MayWait, Runs, RunsCopy, tells, tried, cancelled, kept_as, waits, without}
use Rattle.tmem_desk.specs.Told.{answer_told}
use Rattle.tmem_desk.proofs.Indices.{found_at, found_none, none_waits, first_waits, without_first, none_kept, first_kept, put_first, put_last}
use Rattle.tmem_desk.proofs.Telling.{tells_tells}

-- ---- those that wait

-- one more waits
pub waits_behind : {X : Type 0} (g : X → ℤ × RequestBody) (xs items : List X) (x : X) (v w : DeskView) → v.waiting ≡ map g xs → length xs < 1024 → items ≡ xs ++ x ∷ [] → w ≡ record v { waiting = map g items }
    → w ≡ tried (g x).0 (g x).1 None v
waits_behind g xs items x v w all few pushed is = either (nat_lt (length v.waiting) 1024) refl
  where
    more : w ≡ record v { waiting = v.waiting ++ g x ∷ [] }
    more = is ∙ ap (λ (ws : List (ℤ × RequestBody)). record v { waiting = ws }) (ap (map g) pushed ∙ (map_push g xs x ∙ ap (λ (ws : List (ℤ × RequestBody)). ws ++ g x ∷ []) (sym all)))

    long : length v.waiting ≡ length xs
    long = ap length all ∙ length-map xs g

    either : (b : Bool) → nat_lt (length v.waiting) 1024 ≡ b
        → w ≡ (if b then record v { waiting = v.waiting ++ g x ∷ [] } else tells v (answer_told (g x).0 (answer.Fault fault.Full) ∷ []))
    either true below = more
    either false below = let same : length v.waiting ≡ length xs = long in absurd (grind (arith, nat_tests))

-- as many wait as may
pub waits_full : {X : Type 0} (g : X → ℤ × RequestBody) (xs : List X) (id : ℤ) (asks : RequestBody) (v w : DeskView) → v.waiting ≡ map g xs → 1024 ≤ length xs → w ≡ tells v (answer_told id (answer.Fault fault.Full) ∷ [])
    → w ≡ tried id asks None v
waits_full g xs id asks v w all many is = either (nat_lt (length v.waiting) 1024) refl
  where
    long : length v.waiting ≡ length xs
    long = ap length all ∙ length-map xs g

    either : (b : Bool) → nat_lt (length v.waiting) 1024 ≡ b
        → w ≡ (if b then record v { waiting = v.waiting ++ (id, asks) ∷ [] } else tells v (answer_told id (answer.Fault fault.Full) ∷ []))
    either true below = let same : length v.waiting ≡ length xs = long in absurd (grind (arith, nat_tests))
    either false below = is

-- one is cancelled
pub cancels_first : {X : Type 0} (g : X → ℤ × RequestBody) (id other : ℤ) (xs items : List X) (at : ℕ) (v mid w : DeskView) → v.waiting ≡ map g xs → position (λ (x : X). int_eq (g x).0 other) xs ≡ Some at
    → items ≡ remove xs at → mid ≡ tells (record v { waiting = map g items }) (answer_told other answer.Cancelled ∷ []) → w ≡ tells mid (answer_told id (answer.Found true) ∷ []) → w ≡ cancelled id other v
cancels_first {X} g id other xs items at v mid w all found removed is more =
    let found_index = found_at (λ (x : X). int_eq (g x).0 other) xs at found in
    let rest : map g items ≡ without other v.waiting =
    ap (map g) removed ∙ subst (λ (k : ℕ). map g (remove xs k) ≡ without other v.waiting) found_index.1 (without_first g other xs found_index.0 ∙ ap (without other) (sym all)) in
    let some : waits other v.waiting ≡ true = ap (waits other) all ∙ first_waits g other xs found_index.0 in
    let both : w ≡ tells (record v { waiting = without other v.waiting }) (answer_told other answer.Cancelled ∷ answer_told id (answer.Found true) ∷ []) =
    more ∙ (ap (λ (d : DeskView). tells d (answer_told id (answer.Found true) ∷ [])) is
    ∙ (tells_tells (record v { waiting = map g items }) (answer_told other answer.Cancelled ∷ []) (answer_told id (answer.Found true) ∷ [])
    ∙ ap (λ (ws : List (ℤ × RequestBody)). tells (record v { waiting = ws }) (answer_told other answer.Cancelled ∷ answer_told id (answer.Found true) ∷ [])) rest)) in
    subst
    (λ (b : Bool). w ≡ (if b then tells (record v { waiting = without other v.waiting }) (answer_told other answer.Cancelled ∷ answer_told id (answer.Found true) ∷ []) else tells v (answer_told id (answer.Found false) ∷ [])))
    (sym some) both

-- none of that id waits
pub cancels_none : {X : Type 0} (g : X → ℤ × RequestBody) (id other : ℤ) (xs : List X) (v w : DeskView) → v.waiting ≡ map g xs → position (λ (x : X). int_eq (g x).0 other) xs ≡ None
    → w ≡ tells v (answer_told id (answer.Found false) ∷ []) → w ≡ cancelled id other v
cancels_none {X} g id other xs v w all none is =
    let no : waits other v.waiting ≡ false = ap (waits other) all ∙ none_waits g other xs (found_none (λ (x : X). int_eq (g x).0 other) xs none) in
    subst
    (λ (b : Bool). w ≡ (if b then tells (record v { waiting = without other v.waiting }) (answer_told other answer.Cancelled ∷ answer_told id (answer.Found true) ∷ []) else tells v (answer_told id (answer.Found false) ∷ [])))
    (sym no) is

-- the same where ids are read back from what is passed
pub cancels_none_at : {X : Type 0} (g : X → ℤ × RequestBody) (id other id' other' : ℤ) (xs : List X) (v w : DeskView) → id' ≡ id → other' ≡ other → v.waiting ≡ map g xs
    → position (λ (x : X). int_eq (g x).0 other') xs ≡ None → w ≡ tells v (answer_told id' (answer.Found false) ∷ []) → w ≡ cancelled id other v
cancels_none_at {X} g id other id' other' xs v w id_is other_is all none is =
    subst (λ (o : ℤ). w ≡ cancelled id o v) other_is (subst (λ (i : ℤ). w ≡ cancelled i other' v) id_is (cancels_none g id' other' xs v w all none is))

pub waits_full_at : {X : Type 0} (g : X → ℤ × RequestBody) (xs : List X) (id id' : ℤ) (asks : RequestBody) (v w : DeskView) → id' ≡ id → v.waiting ≡ map g xs → 1024 ≤ length xs
    → w ≡ tells v (answer_told id' (answer.Fault fault.Full) ∷ []) → w ≡ tried id asks None v
waits_full_at g xs id id' asks v w id_is all many is = subst (λ (i : ℤ). w ≡ tried i asks None v) id_is (waits_full g xs id' asks v w all many is)

pub waits_behind_at : {X : Type 0} (g : X → ℤ × RequestBody) (xs items : List X) (x : X) (id : ℤ) (asks : RequestBody) (v w : DeskView) → (g x).0 ≡ id → (g x).1 ≡ asks → v.waiting ≡ map g xs → length xs < 1024
    → items ≡ xs ++ x ∷ [] → w ≡ record v { waiting = map g items } → w ≡ tried id asks None v
waits_behind_at g xs items x id asks v w id_is asks_is all few pushed is =
    subst (λ (a : RequestBody). w ≡ tried id a None v) asks_is (subst (λ (i : ℤ). w ≡ tried i (g x).1 None v) id_is (waits_behind g xs items x v w all few pushed is))

pub cancels_first_at : {X : Type 0} (g : X → ℤ × RequestBody) (id other id' other' : ℤ) (xs items : List X) (at : ℕ) (v mid w : DeskView) → id' ≡ id → other' ≡ other → v.waiting ≡ map g xs
    → position (λ (x : X). int_eq (g x).0 other) xs ≡ Some at → items ≡ remove xs at → mid ≡ tells (record v { waiting = map g items }) (answer_told other' answer.Cancelled ∷ [])
    → w ≡ tells mid (answer_told id' (answer.Found true) ∷ []) → w ≡ cancelled id other v
cancels_first_at g id other id' other' xs items at v mid w id_is other_is all found removed is more =
    cancels_first g id other xs items at v mid w all found removed
    (subst (λ (o : ℤ). mid ≡ tells (record v { waiting = map g items }) (answer_told o answer.Cancelled ∷ [])) other_is is)
    (subst (λ (i : ℤ). w ≡ tells mid (answer_told i (answer.Found true) ∷ [])) id_is more)

-- ---- those that are kept

-- one that is kept in place of another
pub keeps_first : {X : Type 0} (g : X → List ℕ × Tx) (id : ℤ) (word : List ℕ) (tx : Tx) (xs items : List X) (at : ℕ) (x : X) (v w : DeskView) → v.kept ≡ map g xs
    → position (λ (y : X). bytes_eq (g y).0 word) xs ≡ Some at → g x ≡ (word, tx) → items ≡ set xs at x → w ≡ tells (record v { kept = map g items }) (answer_told id (answer.Kept word) ∷ []) → w ≡ kept_as id word tx v
keeps_first {X} g id word tx xs items at x v w all found is written more =
    let found_index = found_at (λ (y : X). bytes_eq (g y).0 word) xs at found in
    let puts : map g items ≡ with_kept word tx v.kept =
    ap (map g) written ∙ subst (λ (k : ℕ). map g (set xs k x) ≡ with_kept word tx v.kept) found_index.1 (put_first g word tx xs x is found_index.0 ∙ ap (with_kept word tx) (sym all)) in
    let some : is_some (kept_under word v.kept) ≡ true = ap (λ (ks : List (List ℕ × Tx)). is_some (kept_under word ks)) all ∙ ap is_some (first_kept g word xs x found_index.0) in
    let kept : w ≡ tells (record v { kept = with_kept word tx v.kept }) (answer_told id (answer.Kept word) ∷ []) =
    more ∙ ap (λ (ks : List (List ℕ × Tx)). tells (record v { kept = ks }) (answer_told id (answer.Kept word) ∷ [])) puts in
    subst
    (λ (b : Bool). w ≡ (if b || nat_lt (length v.kept) 256 then tells (record v { kept = with_kept word tx v.kept }) (answer_told id (answer.Kept word) ∷ []) else tells v (answer_told id (answer.Fault fault.Full) ∷ [])))
    (sym some) kept

none_is_kept : {X : Type 0} (g : X → List ℕ × Tx) (word : List ℕ) (xs : List X) (v : DeskView) → v.kept ≡ map g xs → position (λ (y : X). bytes_eq (g y).0 word) xs ≡ None → kept_under word v.kept ≡ None
none_is_kept {X} g word xs v all none = ap (kept_under word) all ∙ none_kept g word xs (found_none (λ (y : X). bytes_eq (g y).0 word) xs none)

-- one more is kept
pub keeps_behind : {X : Type 0} (g : X → List ℕ × Tx) (id : ℤ) (word : List ℕ) (tx : Tx) (xs items : List X) (x : X) (v w : DeskView) → v.kept ≡ map g xs → position (λ (y : X). bytes_eq (g y).0 word) xs ≡ None
    → length xs < 256 → g x ≡ (word, tx) → items ≡ xs ++ x ∷ [] → w ≡ tells (record v { kept = map g items }) (answer_told id (answer.Kept word) ∷ []) → w ≡ kept_as id word tx v
keeps_behind {X} g id word tx xs items x v w all none few is pushed more = either (is_some (kept_under word v.kept) || nat_lt (length v.kept) 256) refl
  where
    puts : map g items ≡ with_kept word tx v.kept
    puts = ap (map g) pushed ∙ (put_last g word tx xs x is (found_none (λ (y : X). bytes_eq (g y).0 word) xs none) ∙ ap (with_kept word tx) (sym all))

    long : length v.kept ≡ length xs
    long = ap length all ∙ length-map xs g

    either : (b : Bool) → (is_some (kept_under word v.kept) || nat_lt (length v.kept) 256) ≡ b
        → w ≡ (if b then tells (record v { kept = with_kept word tx v.kept }) (answer_told id (answer.Kept word) ∷ []) else tells v (answer_told id (answer.Fault fault.Full) ∷ []))
    either true some = more ∙ ap (λ (ks : List (List ℕ × Tx)). tells (record v { kept = ks }) (answer_told id (answer.Kept word) ∷ [])) puts
    either false some =
        let no : nat_lt (length v.kept) 256 ≡ false = subst (λ (o : Option Tx). (is_some o || nat_lt (length v.kept) 256) ≡ false) (none_is_kept g word xs v all none) some in
        let same : length v.kept ≡ length xs = long in
        absurd (grind (arith, nat_tests))

-- as many are kept as may be
pub keeps_full : {X : Type 0} (g : X → List ℕ × Tx) (id : ℤ) (word : List ℕ) (tx : Tx) (xs : List X) (v w : DeskView) → v.kept ≡ map g xs → position (λ (y : X). bytes_eq (g y).0 word) xs ≡ None
    → 256 ≤ length xs → w ≡ tells v (answer_told id (answer.Fault fault.Full) ∷ []) → w ≡ kept_as id word tx v
keeps_full {X} g id word tx xs v w all none many is = either (is_some (kept_under word v.kept) || nat_lt (length v.kept) 256) refl
  where
    long : length v.kept ≡ length xs
    long = ap length all ∙ length-map xs g

    either : (b : Bool) → (is_some (kept_under word v.kept) || nat_lt (length v.kept) 256) ≡ b
        → w ≡ (if b then tells (record v { kept = with_kept word tx v.kept }) (answer_told id (answer.Kept word) ∷ []) else tells v (answer_told id (answer.Fault fault.Full) ∷ []))
    either true some =
        let yes : nat_lt (length v.kept) 256 ≡ true = subst (λ (o : Option Tx). (is_some o || nat_lt (length v.kept) 256) ≡ true) (none_is_kept g word xs v all none) some in
        let same : length v.kept ≡ length xs = long in
        absurd (grind (arith, nat_tests))
    either false some = is

-- ---- those that are run

-- none is kept under the word
pub runs_none : {X : Type 0} (g : X → List ℕ × Tx) (s : Store) (id : ℤ) (numbers : List ℤ) (word : List ℕ) (xs : List X) (v w : DeskView) → v.kept ≡ map g xs → position (λ (y : X). bytes_eq (g y).0 word) xs ≡ None
    → w ≡ tells v (answer_told id (answer.Found false) ∷ []) → Runs s id numbers (kept_under word v.kept) v w
runs_none g s id numbers word xs v w all none is = subst (λ (o : Option Tx). Runs s id numbers o v w) (sym (none_is_kept g word xs v all none)) is

is_kept : {X : Type 0} (g : X → List ℕ × Tx) (word : List ℕ) (xs : List X) (at : ℕ) (d : X) (v : DeskView) → v.kept ≡ map g xs → position (λ (y : X). bytes_eq (g y).0 word) xs ≡ Some at
    → kept_under word v.kept ≡ Some (g (get_or xs at d)).1
is_kept {X} g word xs at d v all found =
    let found_index = found_at (λ (y : X). bytes_eq (g y).0 word) xs at found in
    subst (λ (k : ℕ). kept_under word v.kept ≡ Some (g (get_or xs k d)).1) found_index.1 (ap (kept_under word) all ∙ first_kept g word xs d found_index.0)

-- it begins with fewer Puts
pub runs_few : {X : Type 0} (g : X → List ℕ × Tx) (s : Store) (id : ℤ) (numbers : List ℤ) (word : List ℕ) (xs : List X) (at : ℕ) (d : X) (v w : DeskView) → v.kept ≡ map g xs
    → position (λ (y : X). bytes_eq (g y).0 word) xs ≡ Some at → first_puts (g (get_or xs at d)).1 < length numbers → w ≡ tells v (answer_told id (answer.Found false) ∷ [])
    → Runs s id numbers (kept_under word v.kept) v w
runs_few g s id numbers word xs at d v w all found few is =
    subst (λ (o : Option Tx). Runs s id numbers o v w) (sym (is_kept g word xs at d v all found)) (either (nat_le (length numbers) (first_puts tx)) refl)
  where
    tx : Tx
    tx = (g (get_or xs at d)).1

    either : (b : Bool) → nat_le (length numbers) (first_puts tx) ≡ b → MatchBool b (RunsCopy s id numbers tx v w) (w ≡ tells v (answer_told id (answer.Found false) ∷ []))
    either true le = absurd (grind (arith, nat_tests))
    either false le = is

-- a copy of it is run
pub runs_copy : {X : Type 0} (g : X → List ℕ × Tx) (s : Store) (id : ℤ) (numbers : List ℤ) (word : List ℕ) (xs : List X) (at : ℕ) (d : X) (v w : DeskView) → v.kept ≡ map g xs
    → position (λ (y : X). bytes_eq (g y).0 word) xs ≡ Some at → length numbers ≤ first_puts (g (get_or xs at d)).1 → RunsCopy s id numbers (g (get_or xs at d)).1 v w
    → Runs s id numbers (kept_under word v.kept) v w
runs_copy g s id numbers word xs at d v w all found enough runs =
    subst (λ (o : Option Tx). Runs s id numbers o v w) (sym (is_kept g word xs at d v all found)) (either (nat_le (length numbers) (first_puts tx)) refl)
  where
    tx : Tx
    tx = (g (get_or xs at d)).1

    either : (b : Bool) → nat_le (length numbers) (first_puts tx) ≡ b → MatchBool b (RunsCopy s id numbers tx v w) (w ≡ tells v (answer_told id (answer.Found false) ∷ []))
    either true le = runs
    either false le = absurd (grind (arith, nat_tests))

-- the same of the tree that was found at an index, where the id is read back from what is passed
pub runs_few_at : {X : Type 0} (g : X → List ℕ × Tx) (s : Store) (id id' : ℤ) (numbers : List ℤ) (word : List ℕ) (xs : List X) (at : ℕ) (k : X) (tree : Tx) (enough : Bool) (v w : DeskView) → id' ≡ id → v.kept ≡ map g xs
    → position (λ (y : X). bytes_eq (g y).0 word) xs ≡ Some at → k ≡ get_or xs at k → tree ≡ (g k).1 → (enough ≡ true) ↔ (length numbers ≤ first_puts tree) → enough ≡ false
    → w ≡ tells v (answer_told id' (answer.Found false) ∷ []) → Runs s id numbers (kept_under word v.kept) v w
runs_few_at {X} g s id id' numbers word xs at k tree enough v w same all found there of_it decides too_few is =
    let tx : tree ≡ (g (get_or xs at k)).1 = of_it ∙ ap (λ (x : X). (g x).1) there in
    let short : ¬ (length numbers ≤ first_puts tree) = λ le. false≢true (sym too_few ∙ decides.1 le) in
    let few : first_puts (g (get_or xs at k)).1 < length numbers = subst (λ (t : Tx). first_puts t < length numbers) tx (omega (arith, short)) in
    runs_few g s id numbers word xs at k v w all found few (subst (λ (i : ℤ). w ≡ tells v (answer_told i (answer.Found false) ∷ [])) same is)

pub runs_copy_at : {X : Type 0} (g : X → List ℕ × Tx) (s : Store) (id id' : ℤ) (numbers : List ℤ) (word : List ℕ) (xs : List X) (at : ℕ) (k : X) (tree copy : Tx) (enough : Bool) (v w : DeskView) → id' ≡ id → v.kept ≡ map g xs
    → position (λ (y : X). bytes_eq (g y).0 word) xs ≡ Some at → k ≡ get_or xs at k → tree ≡ (g k).1 → (enough ≡ true) ↔ (length numbers ≤ first_puts tree) → enough ≡ true
    → tx_form copy ≡ tx_form tree → (HasNoPlan s id' copy v w ⊎ MayWait s id' (ask.Do (with_numbers numbers copy)) v w) → Runs s id numbers (kept_under word v.kept) v w
runs_copy_at {X} g s id id' numbers word xs at k tree copy enough v w same all found there of_it decides as_many form takes =
    let tx : tree ≡ (g (get_or xs at k)).1 = of_it ∙ ap (λ (x : X). (g x).1) there in
    runs_copy g s id numbers word xs at k v w all found (subst (λ (t : Tx). length numbers ≤ first_puts t) tx (decides.0 as_many))
    (record {
      copy = copy;
      same = form ∙ ap tx_form tx;
      takes = subst (λ (i : ℤ). HasNoPlan s i copy v w ⊎ MayWait s i (ask.Do (with_numbers numbers copy)) v w) same takes;
    })
