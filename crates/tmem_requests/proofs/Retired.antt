-- How many of the names that always hold a form retires, and that it is as many as the transaction does whose form it is.
use Rattle.std.proofs.Common.{◌≡◌, ℕ, ◌+◌, List, [], ◌∷◌, map, Box, Global, bytes_eq, codes, if◌then◌else◌, refl, sym, ap, ◌∙◌, arith}
use Rattle.serde_json.specs.Data.{Data, null, boolean, number, string, array, object, Items, no_items, item, Members, no_members, member}
use Rattle.serde_json.specs.View.{items_of}
use Rattle.tmem_fault.specs.Name.{has_name}
use Rattle.tmem_forms.specs.TxForms.{level_form, natural, tx_form}
use Rattle.tmem_requests.specs.Fits.{retires_one_of}
use Rattle.tmem_tree.specs.Limits.{one_if, count, count_all}
use Rattle.tmem_tree.specs.declared.tx.Tx.{Tx, Row_of-Tx, end_of-Tx, more_of-Tx}
use Rattle.tmem_tree.specs.declared.tx.Tx.TheBlock.{items-the_row-Tx, items_shown-the_row-Tx-0}
use Rattle.tmem_tree.specs.declared.tx.Tx.TheFolds.{map-Tx, fold_out-Tx, fold-roll-Tx}
use Rattle.tmem_tree.specs.declared.tx.Tx.TheOpen.{Tx-F}
use Rattle.tmem_tree.specs.declared.tx.Tx.TheOpen as level
use Rattle.tmem_tree.specs.declared.tx.Tx.TheVariants.{Skip, Seq', Put, Read, Write, Step, When, When', OrElse, OrElse', Retry, Abort, Check, Retire}
use Rattle.tmem_tree.specs.declared.tx.Tx.TheViews.{roll-Tx, outs-Seq', rolls-Skip, rolls-Put, rolls-Read, rolls-Write, rolls-Step, rolls-When, rolls-OrElse, rolls-Retry, rolls-Abort, rolls-Check, rolls-Retire}

module _ (always : List (List ℕ)) where
  -- one for a name that is one of these
  abbrev named : Data → ℕ
  named (string s) = one_if (has_name always s)
  named null = 0
  named (boolean b) = 0
  named (number n) = 0
  named (array ds) = 0
  named (object ms) = 0

  abbrev mutual
    -- how many of these names a form retires
    pub retired : Data → ℕ
    retired null = 0
    retired (boolean b) = 0
    retired (number n) = 0
    retired (string s) = 0
    retired (array ds) = retired_items ds
    retired (object ms) = retired_first ms

    retired_items : Items → ℕ
    retired_items no_items = 0
    retired_items (item d ds) = retired d + retired_items ds

    retired_first : Members → ℕ
    retired_first no_members = 0
    retired_first (member k d ms) = if bytes_eq k (codes "retire") then named d else retired d

  -- numbers retire none
  none_of_numbers : (ns : List ℕ) → retired_items (items_of (map natural ns)) ≡ 0
  none_of_numbers [] = refl
  none_of_numbers (n ∷ ns) = omega (arith, none_of_numbers ns)

  -- as many as the level has from which the transaction is rolled up
  rolled : (x : Tx-F Tx) (tx : Tx) → roll-Tx x ≡ tx → retired (tx_form tx) ≡ retired (level_form (map-Tx Tx Data tx_form x))
  rolled x tx is = ap (λ (t : Tx). retired (tx_form t)) (sym is) ∙ ap retired (fold-roll-Tx Data level_form x)

  mutual
    -- as many as the transaction retires
    pub retired_tx : (tx : Tx) → count (retires_one_of always) tx ≡ retired (tx_form tx)
    retired_tx Skip = sym (rolled level.Skip Skip rolls-Skip)
    retired_tx (Seq' shape txs) =
        let form : retired (tx_form (Seq' shape txs)) ≡ retired_items (items_of (map tx_form (items-the_row-Tx _ txs))) =
        ap retired (fold_out-Tx Data level_form (Seq' shape txs) ∙ ap (λ (x : Tx-F Tx). level_form (map-Tx Tx Data tx_form x)) (outs-Seq' shape txs))
        ∙ ap (λ (all : List Tx). retired_items (items_of (map tx_form all))) (items_shown-the_row-Tx-0 shape txs) in
        omega (arith, form, retired_row txs)
    retired_tx (Put reg n) = sym (rolled (level.Put reg n) (Put reg n) (rolls-Put reg n))
    retired_tx (Read var reg) = sym (rolled (level.Read var reg) (Read var reg) (rolls-Read var reg))
    retired_tx (Write var reg) = sym (rolled (level.Write var reg) (Write var reg) (rolls-Write var reg))
    retired_tx (Step index args out) = omega (arith, rolled (level.Step index args out) (Step index args out) (rolls-Step index args out), none_of_numbers args.items)
    retired_tx (When' reg p a q b) =
        let first : Box Tx Global = record { ptr = p.ptr; alloc = p.alloc; value = a } in
        let second : Box Tx Global = record { ptr = q.ptr; alloc = q.alloc; value = b } in
        omega (arith, rolled (level.When reg first second) (When reg first second) (rolls-When reg first second), retired_tx a, retired_tx b)
    retired_tx (OrElse' p a q b) =
        let first : Box Tx Global = record { ptr = p.ptr; alloc = p.alloc; value = a } in
        let second : Box Tx Global = record { ptr = q.ptr; alloc = q.alloc; value = b } in
        omega (arith, rolled (level.OrElse first second) (OrElse first second) (rolls-OrElse first second), retired_tx a, retired_tx b)
    retired_tx Retry = sym (rolled level.Retry Retry rolls-Retry)
    retired_tx (Abort code) = sym (rolled (level.Abort code) (Abort code) (rolls-Abort code))
    retired_tx (Check name) = sym (rolled (level.Check name) (Check name) (rolls-Check name))
    retired_tx (Retire name) = sym (rolled (level.Retire name) (Retire name) (rolls-Retire name))

    retired_row : {m : _} (txs : Row_of-Tx m) → count_all (retires_one_of always) txs ≡ retired_items (items_of (map tx_form (items-the_row-Tx m txs)))
    retired_row end_of-Tx = refl
    retired_row (more_of-Tx tx txs) = omega (arith, retired_tx tx, retired_row txs)
