-- What the types of the desk represent.
use Rattle.std.specs.Prelude.{ℕ, zero, suc, ℤ, List, [], ◌∷◌, ◌++◌, map}
use Rattle.tmem_spine.specs.Views.{PassRoleView}
use Rattle.tmem_tree.specs.declared.tx.Tx.{Tx}
use Rattle.tmem_requests.specs.declared.request.RequestBody.{RequestBody}
use Rattle.tmem_requests.specs.declared.request.RequestBody.TheVariants.{Do, Changed}
use Rattle.tmem_desk.specs.Counts.{no_counts}
use Rattle.tmem_desk.specs.Desks.{DeskView}
use Rattle.tmem_desk.specs.declared.desk.Desk.{Desk}
use Rattle.tmem_desk.specs.declared.held.WaitCondition.{WaitCondition}
use Rattle.tmem_desk.specs.declared.held.WaitCondition.TheVariants.{Plan, Change}
use Rattle.tmem_desk.specs.declared.held.WaitingRequest.{WaitingRequest}
use Rattle.tmem_desk.specs.declared.keeping.Kept.{Kept}

-- what is asked by what is held
abbrev pub asked : {N : Type 0} {a b c d : _} → WaitCondition N a b c d → RequestBody
asked (Plan ready) = Do ready.plan.tree
asked (Change reads) = Changed reads

-- the requests that wait, each with its id
abbrev pub asking : {N : Type 0} {a b c d : _} → List (WaitingRequest N a b c d) → List (ℤ × RequestBody)
asking all = map (λ w. (w.id, asked w.held)) all

-- the transactions that are kept, each with its word
abbrev pub words_kept : {N : Type 0} {a b c d : _} → List (Kept N a b c d) → List (List ℕ × Tx)
words_kept all = map (λ k. (k.word, k.ready.plan.tree)) all

-- what contracts see of a desk
abbrev pub desk_view : {N : Type 0} {a b c d : _} → Desk N a b c d → DeskView
desk_view d = record { pass = d.pass; waiting = asking d.waiting.items; kept = words_kept d.kept.items; told = d.told.items; lines = d.lines; counts = d.counts }

-- one that has read nothing yet
abbrev pub empty_desk : PassRoleView → DeskView
empty_desk pass = record { pass = pass; waiting = []; kept = []; told = []; lines = 0; counts = no_counts }

-- the first so many numbers, from 0
abbrev pub first_numbers : ℕ → List ℕ
first_numbers zero = []
first_numbers (suc n) = first_numbers n ++ n ∷ []
