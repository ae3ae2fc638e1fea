-- Where the parts of what is asked for stand in its form.
use Rattle.std.proofs.Common.{◌≡◌, ◌<◌, ℕ, ℤ, zero, suc, List, [], ◌∷◌, length, map, get_or, codes, Box, Vec, Global, Option, Some, None, refl, sym, ap, ◌∙◌, subst, arith}
use Rattle.serde_json.specs.Data.{Data, string}
use Rattle.serde_json.specs.Find.{get, at}
use Rattle.tmem_tree.specs.declared.tx.Tx.{Tx}
use Rattle.tmem_tree.specs.declared.tx.Tx.TheFolds.{fold-roll-Tx}
use Rattle.tmem_tree.specs.declared.tx.Tx.TheOpen as level
use Rattle.tmem_tree.specs.declared.tx.Tx.TheVariants.{Seq, When, OrElse, Retire}
use Rattle.tmem_tree.specs.declared.tx.Tx.TheViews.{rolls-Seq, rolls-When, rolls-OrElse, rolls-Retire}
use Rattle.tmem_forms.specs.TxForms.{array_of, level_form, natural, tagged, tx_form}
use Rattle.tmem_requests.proofs.Reading.{list_found, list_left_out}
use Rattle.tmem_requests.specs.Forms.{HasMember, list_at}
use Rattle.tmem_requests.specs.Requests.{key_of, IsBody, IsRequest}
use Rattle.tmem_requests.specs.declared.request.RequestBody.{RequestBody}

-- the forms of transactions that hold others, and of one that retires
pub form_of_seq : (txs : Vec Tx Global) → tx_form (Seq txs) ≡ tagged (codes "seq") (array_of (map tx_form txs.items))
form_of_seq txs = subst (λ tx. tx_form tx ≡ tagged (codes "seq") (array_of (map tx_form txs.items))) (rolls-Seq txs) (fold-roll-Tx Data level_form (level.Seq txs))

pub form_of_when : (reg : ℕ) (then other : Box Tx Global) → tx_form (When reg then other) ≡ tagged (codes "when") (array_of (natural reg ∷ tx_form then.value ∷ tx_form other.value ∷ []))
form_of_when reg then other = subst (λ tx. tx_form tx ≡ tagged (codes "when") (array_of (natural reg ∷ tx_form then.value ∷ tx_form other.value ∷ []))) (rolls-When reg then other) (fold-roll-Tx Data level_form (level.When reg then other))

pub form_of_or_else : (left right : Box Tx Global) → tx_form (OrElse left right) ≡ tagged (codes "orelse") (array_of (tx_form left.value ∷ tx_form right.value ∷ []))
form_of_or_else left right = subst (λ tx. tx_form tx ≡ tagged (codes "orelse") (array_of (tx_form left.value ∷ tx_form right.value ∷ []))) (rolls-OrElse left right) (fold-roll-Tx Data level_form (level.OrElse left right))

pub form_of_retire : (name : List ℕ) → tx_form (Retire name) ≡ tagged (codes "retire") (string name)
form_of_retire name = subst (λ tx. tx_form tx ≡ tagged (codes "retire") (string name)) (rolls-Retire name) (fold-roll-Tx Data level_form (level.Retire name))

-- where the form of an item stands
pub form_there : {X : Type 0} (form : X → Data) (xs : List X) (i : ℕ) (x : X) → i < length xs → x ≡ get_or xs i x → at i (array_of (map form xs)) ≡ Some (form x)
form_there form [] i x within is = absurd (omega arith)
form_there form (y ∷ ys) zero x within is = ap (λ z. Some (form z)) (sym is)
form_there form (y ∷ ys) (suc i) x within is = form_there form ys i x (omega arith) is

no_items : {X : Type 0} (form : X → Data) (xs : List X) → array_of [] ≡ array_of (map form xs) → xs ≡ []
no_items form [] same = refl
no_items form (x ∷ xs) same = cc

-- a list stands at its key, or is empty
pub at_its_key : {X : Type 0} (form : X → Data) (key : List ℕ) (d : Data) (xs : List X) (P : Type 0) → list_at key d ≡ array_of (map form xs) → ((v : Data) → get key d ≡ Some v → v ≡ array_of (map form xs) → P) → (xs ≡ [] → P) → P
at_its_key form key d xs P is there none = by (get key d) refl
  where
    by : (o : Option Data) → get key d ≡ o → P
    by (Some v) at = there v at (sym (list_found key d v at) ∙ is)
    by None at = none (no_items form xs (sym (list_left_out key d at) ∙ is))

-- what is asked for stands at its key
pub asked_as : (id : ℤ) (d : Data) (ask other : RequestBody) → ask ≡ other → IsRequest id ask d → HasMember (key_of other) (IsBody other) d
asked_as id d ask other same is = subst (λ (a : RequestBody). HasMember (key_of a) (IsBody a) d) same is.asked
