-- A transaction's form, level by level.
use Rattle.std.proofs.Common.{◌≡◌, ℕ, suc, ℤ, ◌<◌, List, [], ◌∷◌, length, slice_index_or, map, All, FitsSigned, Vec, Box, BTreeMap, String, Global, codes, refl, sym, ap, ◌∙◌, subst}
use Rattle.std.specs.Int.{w64}
use Rattle.std.specs.formers.vec.Vec.{holding, fits, holding_along}
use Rattle.std.proofs.lemmas.List.Elements.{All-head, All-tail, All-cons, All-nil}
use Rattle.serde_json.proofs.Views.{members_len-members_view, view-Object}
use Rattle.serde_json.specs.View.{view}
use Rattle.serde_json.specs.declared.value.Value.{Value, Object}
use Rattle.serde_json.specs.Data.{Data, string}
use Rattle.tmem_builtins.specs.Steps.{step_names}
use Rattle.tmem_fault.specs.Name.{IsName}
use Rattle.tmem_tree.specs.declared.tx.Tx.{Tx}
use Rattle.tmem_tree.specs.declared.tx.Tx.TheFolds.{map-Tx, fold_out-Tx, fold-roll-Tx, every_here-Tx, every_held-Tx, every_made-Tx}
use Rattle.tmem_tree.specs.declared.tx.Tx.TheOpen.{Tx-F}
use Rattle.tmem_tree.specs.declared.tx.Tx.TheOpen as level
use Rattle.tmem_tree.specs.declared.tx.Tx.TheVariants.{Skip, Seq, Put, Read, Write, Step, When, OrElse, Retry, Abort, Check, Retire}
use Rattle.tmem_tree.specs.declared.tx.Tx.TheViews.{out-Tx, roll-Tx, rolls-Skip, rolls-Seq, rolls-Put, rolls-Read, rolls-Write, rolls-Step, rolls-When, rolls-OrElse, rolls-Retry, rolls-Abort, rolls-Check, rolls-Retire}
use Rattle.tmem_forms.proofs.Laws.{NoTx, key_of, apart, width}
use Rattle.tmem_forms.specs.TxForms.{natural, integer, array_of, tagged, level_form, tx_form, IsByte, IsShort, LevelInRange, TxInRange, IsTx}

-- a transaction with a proof that it is in range
abbrev Ranged : Type 0
Ranged = (tx : Tx) × TxInRange tx

-- those that a level holds are in range
abbrev HeldInRange : Tx-F Tx → Type 0
HeldInRange level.Skip = Unit {0}
HeldInRange (level.Seq txs) = All TxInRange txs.items
HeldInRange (level.Put reg n) = Unit {0}
HeldInRange (level.Read var reg) = Unit {0}
HeldInRange (level.Write var reg) = Unit {0}
HeldInRange (level.Step index args out) = Unit {0}
HeldInRange (level.When reg then other) = TxInRange then.value × TxInRange other.value
HeldInRange (level.OrElse first second) = TxInRange first.value × TxInRange second.value
HeldInRange level.Retry = Unit {0}
HeldInRange (level.Abort code) = Unit {0}
HeldInRange (level.Check name) = Unit {0}
HeldInRange (level.Retire name) = Unit {0}

-- this value is the form of this level
record IsLevel (x : Tx-F Tx) (d : Data) : Type 0 where
  form : d ≡ level_form (map-Tx Tx Data tx_form x)
  here : LevelInRange x
  held : HeldInRange x

all_ranged : (es : List Ranged) → All TxInRange (map (λ e. e.0) es)
all_ranged [] = All-nil TxInRange
all_ranged (e ∷ es) = All-cons TxInRange e.0 (map (λ e. e.0) es) e.1 (all_ranged es)

held_of : (y : Tx-F Ranged) → HeldInRange (map-Tx Ranged Tx (λ e. e.0) y)
held_of level.Skip = tt
held_of (level.Seq es) = all_ranged es.items
held_of (level.Put reg n) = tt
held_of (level.Read var reg) = tt
held_of (level.Write var reg) = tt
held_of (level.Step index args out) = tt
held_of (level.When reg then other) = (then.value.1, other.value.1)
held_of (level.OrElse first second) = (first.value.1, second.value.1)
held_of level.Retry = tt
held_of (level.Abort code) = tt
held_of (level.Check name) = tt
held_of (level.Retire name) = tt

level_of : (tx : Tx) (d : Data) → IsTx tx d → IsLevel (out-Tx tx) d
level_of tx d is =
    let held = every_held-Tx LevelInRange tx is.in_range in
    record { form = is.form ∙ fold_out-Tx Data level_form tx; here = every_here-Tx LevelInRange tx is.in_range; held = subst HeldInRange held.1 (held_of held.0) }

abbrev ranged : (txs : List Tx) → All TxInRange txs → List Ranged
ranged [] all = []
ranged (tx ∷ txs) all = (tx, All-head TxInRange tx txs all) ∷ ranged txs (All-tail TxInRange tx txs all)

map-ranged : (txs : List Tx) (all : All TxInRange txs) → map (λ e. e.0) (ranged txs all) ≡ txs
map-ranged [] all = refl
map-ranged (tx ∷ txs) all = ap (λ rest. tx ∷ rest) (map-ranged txs (All-tail TxInRange tx txs all))

length-ranged : (txs : List Tx) (all : All TxInRange txs) → length (ranged txs all) ≡ length txs
length-ranged [] all = refl
length-ranged (tx ∷ txs) all = ap suc (length-ranged txs (All-tail TxInRange tx txs all))

ranged_vec : (txs : Vec Tx Global) → All TxInRange txs.items → (es : Tx-F Ranged) × (map-Tx Ranged Tx (λ e. e.0) es ≡ level.Seq txs)
ranged_vec txs all =
    let es : Vec Ranged Global = holding txs (ranged txs.items all) (fits txs (ranged txs.items all) (length-ranged txs.items all)) in
    (level.Seq es, ap level.Seq (holding_along txs (map (λ e. e.0) es.items) txs.items (map-ranged txs.items all) _ txs.ok))

abbrev ranged_box : (tx : Box Tx Global) → TxInRange tx.value → Box Ranged Global
ranged_box tx fits = record { ptr = tx.ptr; alloc = tx.alloc; value = (tx.value, fits) }

ranged_level : (x : Tx-F Tx) → HeldInRange x → (y : Tx-F Ranged) × (map-Tx Ranged Tx (λ e. e.0) y ≡ x)
ranged_level level.Skip held = (level.Skip, refl)
ranged_level (level.Seq txs) held = ranged_vec txs held
ranged_level (level.Put reg n) held = (level.Put reg n, refl)
ranged_level (level.Read var reg) held = (level.Read var reg, refl)
ranged_level (level.Write var reg) held = (level.Write var reg, refl)
ranged_level (level.Step index args out) held = (level.Step index args out, refl)
ranged_level (level.When reg then other) held = (level.When reg (ranged_box then held.0) (ranged_box other held.1), refl)
ranged_level (level.OrElse first second) held = (level.OrElse (ranged_box first held.0) (ranged_box second held.1), refl)
ranged_level level.Retry held = (level.Retry, refl)
ranged_level (level.Abort code) held = (level.Abort code, refl)
ranged_level (level.Check name) held = (level.Check name, refl)
ranged_level (level.Retire name) held = (level.Retire name, refl)

tx_of_level : (x : Tx-F Tx) → LevelInRange x → HeldInRange x → IsTx (roll-Tx x) (level_form (map-Tx Tx Data tx_form x))
tx_of_level x here held =
    let all = ranged_level x held in
    record { form = sym (fold-roll-Tx Data level_form x); in_range = every_made-Tx LevelInRange x all.0 all.1 here }

-- ---- the form of each transaction

pub IsTx-Skip : IsTx Skip (string (codes "skip"))
IsTx-Skip = subst (λ tx. IsTx tx (string (codes "skip"))) rolls-Skip (tx_of_level level.Skip tt tt)

pub IsTx-Retry : IsTx Retry (string (codes "retry"))
IsTx-Retry = subst (λ tx. IsTx tx (string (codes "retry"))) rolls-Retry (tx_of_level level.Retry tt tt)

pub IsTx-Seq : (txs : Vec Tx Global) → All TxInRange txs.items → IsTx (Seq txs) (tagged (codes "seq") (array_of (map tx_form txs.items)))
IsTx-Seq txs all = subst (λ tx. IsTx tx (tagged (codes "seq") (array_of (map tx_form txs.items)))) (rolls-Seq txs) (tx_of_level (level.Seq txs) tt all)

pub IsTx-Put : (reg : ℕ) (n : ℤ) → IsByte reg → FitsSigned w64 n → IsTx (Put reg n) (tagged (codes "put") (array_of (natural reg ∷ integer n ∷ [])))
IsTx-Put reg n first second = subst (λ tx. IsTx tx (tagged (codes "put") (array_of (natural reg ∷ integer n ∷ [])))) (rolls-Put reg n) (tx_of_level (level.Put reg n) (first, second) tt)

pub IsTx-Read : (var reg : ℕ) → IsShort var → IsByte reg → IsTx (Read var reg) (tagged (codes "read") (array_of (natural var ∷ natural reg ∷ [])))
IsTx-Read var reg first second = subst (λ tx. IsTx tx (tagged (codes "read") (array_of (natural var ∷ natural reg ∷ [])))) (rolls-Read var reg) (tx_of_level (level.Read var reg) (first, second) tt)

pub IsTx-Write : (var reg : ℕ) → IsShort var → IsByte reg → IsTx (Write var reg) (tagged (codes "write") (array_of (natural var ∷ natural reg ∷ [])))
IsTx-Write var reg first second = subst (λ tx. IsTx tx (tagged (codes "write") (array_of (natural var ∷ natural reg ∷ [])))) (rolls-Write var reg) (tx_of_level (level.Write var reg) (first, second) tt)

pub IsTx-Step : (index : ℕ) (args : Vec ℕ Global) (out : ℕ) → index < length step_names → All IsByte args.items → IsByte out → IsTx (Step index args out)
    (tagged (codes "step") (array_of (string (slice_index_or step_names index []) ∷ array_of (map natural args.items) ∷ natural out ∷ [])))
IsTx-Step index args out first second third = subst (λ tx. IsTx tx (tagged (codes "step") (array_of (string (slice_index_or step_names index []) ∷ array_of (map natural args.items) ∷ natural out ∷ [])))) (rolls-Step index args out) (tx_of_level (level.Step index args out) (first, second, third) tt)

pub IsTx-When : (reg : ℕ) (then other : Box Tx Global) → IsByte reg → TxInRange then.value → TxInRange other.value → IsTx (When reg then other) (tagged (codes "when") (array_of (natural reg ∷ tx_form then.value ∷ tx_form other.value ∷ [])))
IsTx-When reg then other fits first second = subst (λ tx. IsTx tx (tagged (codes "when") (array_of (natural reg ∷ tx_form then.value ∷ tx_form other.value ∷ [])))) (rolls-When reg then other) (tx_of_level (level.When reg then other) fits (first, second))

pub IsTx-OrElse : (left right : Box Tx Global) → TxInRange left.value → TxInRange right.value → IsTx (OrElse left right) (tagged (codes "orelse") (array_of (tx_form left.value ∷ tx_form right.value ∷ [])))
IsTx-OrElse left right first second = subst (λ tx. IsTx tx (tagged (codes "orelse") (array_of (tx_form left.value ∷ tx_form right.value ∷ [])))) (rolls-OrElse left right) (tx_of_level (level.OrElse left right) tt (first, second))

pub IsTx-Abort : (code : ℕ) → IsShort code → IsTx (Abort code) (tagged (codes "abort") (natural code))
IsTx-Abort code fits = subst (λ tx. IsTx tx (tagged (codes "abort") (natural code))) (rolls-Abort code) (tx_of_level (level.Abort code) fits tt)

pub IsTx-Check : (name : List ℕ) → IsName name → IsTx (Check name) (tagged (codes "check") (string name))
IsTx-Check name is = subst (λ tx. IsTx tx (tagged (codes "check") (string name))) (rolls-Check name) (tx_of_level (level.Check name) is tt)

pub IsTx-Retire : (name : List ℕ) → IsName name → IsTx (Retire name) (tagged (codes "retire") (string name))
IsTx-Retire name is = subst (λ tx. IsTx tx (tagged (codes "retire") (string name))) (rolls-Retire name) (tx_of_level (level.Retire name) is tt)

-- ---- what a value has to be for a transaction

abbrev pub NoSeq : Data → Type 0
NoSeq body = (txs : List Tx) → All TxInRange txs → ¬ (body ≡ array_of (map tx_form txs))

abbrev pub NoPut : Data → Type 0
NoPut body = (reg : ℕ) (n : ℤ) → IsByte reg → FitsSigned w64 n → ¬ (body ≡ array_of (natural reg ∷ integer n ∷ []))

abbrev pub NoAccess : Data → Type 0
NoAccess body = (var reg : ℕ) → IsShort var → IsByte reg → ¬ (body ≡ array_of (natural var ∷ natural reg ∷ []))

abbrev pub NoRead : Data → Type 0
NoRead = NoAccess

abbrev pub NoWrite : Data → Type 0
NoWrite = NoAccess

abbrev pub NoStep : Data → Type 0
NoStep body = (index : ℕ) (args : List ℕ) (out : ℕ) → index < length step_names → All IsByte args → IsByte out
    → ¬ (body ≡ array_of (string (slice_index_or step_names index []) ∷ array_of (map natural args) ∷ natural out ∷ []))

abbrev pub NoWhen : Data → Type 0
NoWhen body = (reg : ℕ) (a b : Tx) → IsByte reg → TxInRange a → TxInRange b → ¬ (body ≡ array_of (natural reg ∷ tx_form a ∷ tx_form b ∷ []))

abbrev pub NoOrElse : Data → Type 0
NoOrElse body = (a b : Tx) → TxInRange a → TxInRange b → ¬ (body ≡ array_of (tx_form a ∷ tx_form b ∷ []))

abbrev pub NoAbort : Data → Type 0
NoAbort body = (code : ℕ) → IsShort code → ¬ (body ≡ natural code)

abbrev pub NoCheck : Data → Type 0
NoCheck body = (name : List ℕ) → IsName name → ¬ (body ≡ string name)

-- seq
no_seq_level : (body : Data) → NoSeq body → (x : Tx-F Tx) → IsLevel x (tagged (codes "seq") body) → ⊥
no_seq_level body none (level.Seq txs) is = let form = is.form in none txs.items is.held cc
no_seq_level body none _ is = apart (codes "seq") _ refl (ap key_of is.form)

pub no_seq : (key : List ℕ) (body : Data) → key ≡ codes "seq" → NoSeq body → NoTx (tagged key body)
no_seq key body is none tx form = no_seq_level body none (out-Tx tx) (level_of tx _ (subst (λ k. IsTx tx (tagged k body)) is form))

-- put
no_put_level : (body : Data) → NoPut body → (x : Tx-F Tx) → IsLevel x (tagged (codes "put") body) → ⊥
no_put_level body none (level.Put reg n) is = let form = is.form in none reg n is.here.0 is.here.1 cc
no_put_level body none _ is = apart (codes "put") _ refl (ap key_of is.form)

pub no_put : (key : List ℕ) (body : Data) → key ≡ codes "put" → NoPut body → NoTx (tagged key body)
no_put key body is none tx form = no_put_level body none (out-Tx tx) (level_of tx _ (subst (λ k. IsTx tx (tagged k body)) is form))

-- read
no_read_level : (body : Data) → NoRead body → (x : Tx-F Tx) → IsLevel x (tagged (codes "read") body) → ⊥
no_read_level body none (level.Read var reg) is = let form = is.form in none var reg is.here.0 is.here.1 cc
no_read_level body none _ is = apart (codes "read") _ refl (ap key_of is.form)

pub no_read : (key : List ℕ) (body : Data) → key ≡ codes "read" → NoRead body → NoTx (tagged key body)
no_read key body is none tx form = no_read_level body none (out-Tx tx) (level_of tx _ (subst (λ k. IsTx tx (tagged k body)) is form))

-- write
no_write_level : (body : Data) → NoWrite body → (x : Tx-F Tx) → IsLevel x (tagged (codes "write") body) → ⊥
no_write_level body none (level.Write var reg) is = let form = is.form in none var reg is.here.0 is.here.1 cc
no_write_level body none _ is = apart (codes "write") _ refl (ap key_of is.form)

pub no_write : (key : List ℕ) (body : Data) → key ≡ codes "write" → NoWrite body → NoTx (tagged key body)
no_write key body is none tx form = no_write_level body none (out-Tx tx) (level_of tx _ (subst (λ k. IsTx tx (tagged k body)) is form))

-- step
no_step_level : (body : Data) → NoStep body → (x : Tx-F Tx) → IsLevel x (tagged (codes "step") body) → ⊥
no_step_level body none (level.Step index args out) is = let form = is.form in none index args.items out is.here.0 is.here.1 is.here.2 cc
no_step_level body none _ is = apart (codes "step") _ refl (ap key_of is.form)

pub no_step : (key : List ℕ) (body : Data) → key ≡ codes "step" → NoStep body → NoTx (tagged key body)
no_step key body is none tx form = no_step_level body none (out-Tx tx) (level_of tx _ (subst (λ k. IsTx tx (tagged k body)) is form))

-- when
no_when_level : (body : Data) → NoWhen body → (x : Tx-F Tx) → IsLevel x (tagged (codes "when") body) → ⊥
no_when_level body none (level.When reg then other) is = let form = is.form in none reg then.value other.value is.here is.held.0 is.held.1 cc
no_when_level body none _ is = apart (codes "when") _ refl (ap key_of is.form)

pub no_when : (key : List ℕ) (body : Data) → key ≡ codes "when" → NoWhen body → NoTx (tagged key body)
no_when key body is none tx form = no_when_level body none (out-Tx tx) (level_of tx _ (subst (λ k. IsTx tx (tagged k body)) is form))

-- orelse
no_or_else_level : (body : Data) → NoOrElse body → (x : Tx-F Tx) → IsLevel x (tagged (codes "orelse") body) → ⊥
no_or_else_level body none (level.OrElse first second) is = let form = is.form in none first.value second.value is.held.0 is.held.1 cc
no_or_else_level body none _ is = apart (codes "orelse") _ refl (ap key_of is.form)

pub no_or_else : (key : List ℕ) (body : Data) → key ≡ codes "orelse" → NoOrElse body → NoTx (tagged key body)
no_or_else key body is none tx form = no_or_else_level body none (out-Tx tx) (level_of tx _ (subst (λ k. IsTx tx (tagged k body)) is form))

-- abort
no_abort_level : (body : Data) → NoAbort body → (x : Tx-F Tx) → IsLevel x (tagged (codes "abort") body) → ⊥
no_abort_level body none (level.Abort code) is = let form = is.form in none code is.here cc
no_abort_level body none _ is = apart (codes "abort") _ refl (ap key_of is.form)

pub no_abort : (key : List ℕ) (body : Data) → key ≡ codes "abort" → NoAbort body → NoTx (tagged key body)
no_abort key body is none tx form = no_abort_level body none (out-Tx tx) (level_of tx _ (subst (λ k. IsTx tx (tagged k body)) is form))

-- check
no_check_level : (body : Data) → NoCheck body → (x : Tx-F Tx) → IsLevel x (tagged (codes "check") body) → ⊥
no_check_level body none (level.Check name) is = let form = is.form in none name is.here cc
no_check_level body none _ is = apart (codes "check") _ refl (ap key_of is.form)

pub no_check : (key : List ℕ) (body : Data) → key ≡ codes "check" → NoCheck body → NoTx (tagged key body)
no_check key body is none tx form = no_check_level body none (out-Tx tx) (level_of tx _ (subst (λ k. IsTx tx (tagged k body)) is form))

-- retire
no_retire_level : (body : Data) → NoCheck body → (x : Tx-F Tx) → IsLevel x (tagged (codes "retire") body) → ⊥
no_retire_level body none (level.Retire name) is = let form = is.form in none name is.here cc
no_retire_level body none _ is = apart (codes "retire") _ refl (ap key_of is.form)

pub no_retire : (key : List ℕ) (body : Data) → key ≡ codes "retire" → NoCheck body → NoTx (tagged key body)
no_retire key body is none tx form = no_retire_level body none (out-Tx tx) (level_of tx _ (subst (λ k. IsTx tx (tagged k body)) is form))

level_width : (x : Tx-F Tx) → width (level_form (map-Tx Tx Data tx_form x)) ≡ 1
level_width level.Skip = refl
level_width (level.Seq txs) = refl
level_width (level.Put reg n) = refl
level_width (level.Read var reg) = refl
level_width (level.Write var reg) = refl
level_width (level.Step index args out) = refl
level_width (level.When reg then other) = refl
level_width (level.OrElse first second) = refl
level_width level.Retry = refl
level_width (level.Abort code) = refl
level_width (level.Check name) = refl
level_width (level.Retire name) = refl

pub no_tx_of_members : (m : BTreeMap (String Global) Value) → ¬ (length m.entries ≡ 1) → NoTx (view (Object m))
no_tx_of_members m many tx is =
    let form = (level_of tx _ is).form in
    many (sym (members_len-members_view m.entries) ∙ ap width (sym (view-Object m) ∙ form) ∙ level_width (out-Tx tx))

pub tagged_as : (tx : Tx) (k l : List ℕ) (b d : Data) → k ≡ l → b ≡ d → IsTx tx (tagged l d) → IsTx tx (tagged k b)
tagged_as tx k l b d key body = subst (λ (e : Data). IsTx tx e) (sym (ap (λ m. tagged m b) key ∙ ap (tagged l) body))
