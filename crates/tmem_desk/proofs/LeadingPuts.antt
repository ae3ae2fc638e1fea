-- The Puts that a Seq begins with, over the list of its trees.
use Rattle.std.proofs.Common.{◌≡◌, ℕ, ◌+◌, Bool, true, ◌&&◌, List, [], ◌∷◌, refl, ap, rules}
use Rattle.std.specs.Prelude.{if◌then◌else◌}
use Rattle.std.specs.declared.vec.Vec.{Vec}
use Rattle.std.specs.declared.alloc.Global.{Global}
use Rattle.tmem_tree.specs.declared.tx.Tx.{Tx, Row_of-Tx, end_of-Tx, more_of-Tx}
use Rattle.tmem_tree.specs.declared.tx.Tx.TheVariants.{Seq}
use Rattle.tmem_tree.specs.declared.tx.Tx.TheBlock.{items-the_row-Tx}
use Rattle.tmem_tree.specs.declared.tx.Tx.TheViews.{the_lemmas}
use Rattle.tmem_desk.specs.Leading.{is_puts, are_puts, first_puts, first_puts_in}

-- whether they are Puts alone
abbrev pub all_puts : List Tx → Bool
all_puts [] = true
all_puts (tx ∷ txs) = is_puts tx && all_puts txs

-- how many Puts they begin with
abbrev pub leading : List Tx → ℕ
leading [] = 0
leading (tx ∷ txs) = if is_puts tx then first_puts tx + leading txs else first_puts tx

are_puts-items : {m : _} (txs : Row_of-Tx m) → are_puts txs ≡ all_puts (items-the_row-Tx m txs)
are_puts-items end_of-Tx = refl
are_puts-items (more_of-Tx tx txs) = ap (λ (b : Bool). is_puts tx && b) (are_puts-items txs)

first_puts_in-items : {m : _} (txs : Row_of-Tx m) → first_puts_in txs ≡ leading (items-the_row-Tx m txs)
first_puts_in-items end_of-Tx = refl
first_puts_in-items (more_of-Tx tx txs) = ap (λ (n : ℕ). if is_puts tx then first_puts tx + n else first_puts tx) (first_puts_in-items txs)

pub is_puts-Seq : (txs : Vec Tx Global) → is_puts (Seq txs) ≡ all_puts txs.items
is_puts-Seq txs = search (rules, the_lemmas, are_puts-items)

pub first_puts-Seq : (txs : Vec Tx Global) → first_puts (Seq txs) ≡ leading txs.items
first_puts-Seq txs = search (rules, the_lemmas, first_puts_in-items)
