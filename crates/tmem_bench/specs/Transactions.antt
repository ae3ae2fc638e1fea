-- What the callers' transactions do.
use Rattle.std.specs.Prelude.{◌≡◌, ℕ, ℤ, pos, negsuc, ◌+ℤ◌, List, [], ◌∷◌, codes}
use Rattle.std.specs.declared.vec.Vec.{Vec}
use Rattle.std.specs.declared.alloc.Global.{Global}
use Rattle.tmem_builtins.specs.Transactions.{RunsAs, changed}
use Rattle.tmem_tree.specs.declared.tx.Tx.{Tx}
use Rattle.tmem_tree.specs.declared.tx.Tx.TheVariants.{Check, Read, Seq}
use Rattle.tmem_tree.specs.Run.{Normal, put, write}
use Rattle.tmem_bench.specs.declared.jobs.Act.{Act}
use Rattle.tmem_bench.specs.declared.jobs.Act.TheVariants.{Add, AddMany, Transfer, TransferMany, WideMany, TwoReads}

-- a variable gets so much more
abbrev pub Adds : ℕ → ℤ → Tx → Type 0
Adds var number tx = RunsAs tx (λ view. changed view var (view.values var +ℤ number) number)

-- a variable takes a number
abbrev pub PutsNumber : ℕ → ℤ → Tx → Type 0
PutsNumber var number tx = RunsAs tx (λ view. Normal (write (put view 15 number) var number))

-- something is put into both accounts, and then the invariant is checked, which registers it
abbrev pub AreDeposits : List Tx → Type 0
AreDeposits (payer ∷ payee ∷ check ∷ []) = PutsNumber 1 (pos 1000000000000) payer × PutsNumber 2 (pos 1000000000000) payee × (check ≡ Check (codes "solvent"))
AreDeposits _ = ⊥

abbrev pub Deposits : Tx → Type 0
Deposits tx = (parts : Vec Tx Global) × (tx ≡ Seq parts) × AreDeposits parts.items

-- 1 leaves the first account, and then comes into the second
abbrev pub AreOneMoved : List Tx → Type 0
AreOneMoved (paid ∷ received ∷ []) = Adds 1 (negsuc 0) paid × Adds 2 (pos 1) received
AreOneMoved _ = ⊥

abbrev pub MovesOne : Tx → Type 0
MovesOne tx = (parts : Vec Tx Global) × (tx ≡ Seq parts) × AreOneMoved parts.items

-- both accounts are read
abbrev pub ReadsAccounts : Tx → Type 0
ReadsAccounts tx = (parts : Vec Tx Global) × (tx ≡ Seq parts) × (parts.items ≡ Read 1 0 ∷ Read 2 1 ∷ [])

-- what is done: 1 is added to the counter, or moved between the accounts, or these are read
abbrev pub Does : Act → Tx → Type 0
Does Add tx = Adds 0 (pos 1) tx
Does AddMany tx = Adds 0 (pos 1) tx
Does Transfer tx = MovesOne tx
Does TransferMany tx = MovesOne tx
Does WideMany tx = MovesOne tx
Does TwoReads tx = ReadsAccounts tx
