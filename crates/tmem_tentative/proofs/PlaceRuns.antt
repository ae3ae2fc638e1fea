-- Runs from place to place.
use Rattle.std.proofs.Common.{◌≡◌, ℕ, zero, suc, ℤ, pos, ◌<◌, Bool, true, false, List, [], ◌∷◌, length, cond, refl, sym, ap, ◌∙◌, arith}
use Rattle.tmem_tree.specs.declared.tx.Tx.{Tx}
use Rattle.tmem_tree.specs.declared.tx.Tx.TheVariants.{When', OrElse'}
use Rattle.tmem_tree.specs.StepAnswers.{StepMeanings}
use Rattle.tmem_tree.specs.Run.{register, is_zero}
use Rattle.tmem_tentative.specs.declared.save.Save.{Save}
use Rattle.tmem_tentative.specs.Eval.{RunState, Taken, Flow, eval, else_eval}
use Rattle.tmem_tentative.specs.Logs.{Out, Stopped, Gave_way}
use Rattle.tmem_tentative.specs.Places.{Covers, Place, LeadsTo, eval_on, eval_from, with_more, behind, with_child, Enters, EntersChoice}
use Rattle.tmem_tentative.proofs.EvalSeen.{covers_refl}

-- the same reads, with these answers left
abbrev pub with_left : Taken → List Bool → Taken
with_left seen left = record { reads = seen.reads; left = left }

-- the place behind a run of a child
abbrev pub in_child : Out → ℕ → Place → Place
in_child out child p = record { path = with_child out child p.path; saves = p.saves; registers = p.registers; effect = p.effect }

module _ (m : StepMeanings) (footprint : List ℕ → List ℕ) (seen : Taken) (kept : List Bool) (tx child : Tx) (before inside : Place) (i : ℕ) where
  -- A run of a child, with these answers left, at the end of which the tree is at its end too. `same` says that the tree's evaluation
  -- from a place in the child is the child's.
  pub child_leads : (out : Out) (after : Place) (left : List Bool)
      → ((reads : List (ℕ × ℤ)) (more : List Bool) → Covers reads seen.reads → eval_from m footprint reads tx before (with_more seen more) ≡ eval_from m footprint reads child inside (with_more (with_left seen kept) more))
      → ((reads : List (ℕ × ℤ)) (path : List ℕ) (saves : List Save) (s : RunState) → eval_on m footprint reads (i ∷ path) tx saves s ≡ eval_on m footprint reads path child saves s)
      → LeadsTo m footprint (with_left seen kept) child inside out after left → LeadsTo m footprint seen tx before out (in_child out i after) left
  child_leads out after left start same l = record {
    asks = λ ask is. start seen.reads [] (covers_refl seen.reads) ∙ l.asks ask is;
    spent = l.spent;
    goes_on = λ reads n more c d. start reads more c ∙ l.goes_on reads n more c d ∙ on reads out _;
  } where
    on : (reads : List (ℕ × ℤ)) (out : Out) (seen : Taken) → behind m footprint reads child out after seen ≡ behind m footprint reads tx out (in_child out i after) seen
    on reads (Stopped ask) seen = sym (same reads after.path after.saves _)
    on reads out seen = refl

-- a When goes on as the child that is entered
pub when_then : (m : StepMeanings) (footprint : List ℕ → List ℕ) (reads : List (ℕ × ℤ)) (reg : ℕ) (a b : Tx) (p q : _) (path rest : List ℕ) (saves : List Save) (s : RunState)
    → Enters path (cond (is_zero (register s.registers reg)) 1 0) 0 rest → eval_on m footprint reads path (When' reg p a q b) saves s ≡ eval_on m footprint reads rest a saves s
when_then m footprint reads reg a b p q [] rest saves s e = on (is_zero (register s.registers reg)) e.0 where
  on : (z : Bool) → zero ≡ cond z 1 0 → cond z (eval m footprint reads b s) (eval m footprint reads a s) ≡ eval_on m footprint reads rest a saves s
  on true h = cc
  on false h = sym (ap (λ l. eval_on m footprint reads l a saves s) e.1)
when_then m footprint reads reg a b p q (zero ∷ path) rest saves s e = sym (ap (λ l. eval_on m footprint reads l a saves s) e.1)
when_then m footprint reads reg a b p q (suc i ∷ path) rest saves s e = let no : zero ≡ suc i = e.0 in cc

pub when_other : (m : StepMeanings) (footprint : List ℕ → List ℕ) (reads : List (ℕ × ℤ)) (reg : ℕ) (a b : Tx) (p q : _) (path rest : List ℕ) (saves : List Save) (s : RunState) (child : ℕ)
    → Enters path (cond (is_zero (register s.registers reg)) 1 0) child rest → (child ≡ 0 → ⊥) → eval_on m footprint reads path (When' reg p a q b) saves s ≡ eval_on m footprint reads rest b saves s
when_other m footprint reads reg a b p q [] rest saves s child e some = on (is_zero (register s.registers reg)) e.0 where
  on : (z : Bool) → child ≡ cond z 1 0 → cond z (eval m footprint reads b s) (eval m footprint reads a s) ≡ eval_on m footprint reads rest b saves s
  on true h = sym (ap (λ l. eval_on m footprint reads l b saves s) e.1)
  on false h = absurd (some h)
when_other m footprint reads reg a b p q (zero ∷ path) rest saves s child e some = absurd (some e.0)
when_other m footprint reads reg a b p q (suc i ∷ path) rest saves s child e some = sym (ap (λ l. eval_on m footprint reads l b saves s) e.1)

abbrev pub save_of : RunState → Save
save_of s = record { registers = s.registers; effect = s.effect }

-- a choice that is not entered by its first branch goes on as the second
pub choice_second : (m : StepMeanings) (footprint : List ℕ → List ℕ) (reads : List (ℕ × ℤ)) (a b : Tx) (p q : _) (path rest : List ℕ) (saves saves' : List Save) (s : RunState)
    → EntersChoice path (save_of s) saves false rest saves' → eval_on m footprint reads path (OrElse' p a q b) saves s ≡ eval_on m footprint reads rest b saves' s
choice_second m footprint reads a b p q [] rest saves saves' s e = let no : false ≡ true = e.0 in cc
choice_second m footprint reads a b p q (zero ∷ path) rest saves saves' s e = let no : false ≡ true = e.0 in cc
choice_second m footprint reads a b p q (suc i ∷ path) rest saves saves' s e =
    sym (ap (λ l. eval_on m footprint reads rest b l s) e.2 ∙ ap (λ l. eval_on m footprint reads l b saves s) e.1)

-- one that is goes on as the first, with the second behind it
pub choice_first : (m : StepMeanings) (footprint : List ℕ → List ℕ) (reads : List (ℕ × ℤ)) (a b : Tx) (p q : _) (path rest : List ℕ) (save : Save) (saves inner : List Save) (s : RunState)
    → 0 < length saves → EntersChoice path (save_of s) saves true rest (save ∷ inner)
    → eval_on m footprint reads path (OrElse' p a q b) saves s ≡ else_eval (eval_on m footprint reads rest a inner s) (λ seen. eval m footprint reads b (record { registers = save.registers; effect = save.effect; seen = seen }))
choice_first m footprint reads a b p q [] rest save [] inner s some e = absurd (omega arith)
choice_first m footprint reads a b p q [] rest save (save0 ∷ saves) inner s some e =
    let head : save ≡ save_of s = cc in
    let tail : inner ≡ saves = cc in
    ap (λ (k : Save). else_eval (eval m footprint reads a s) (λ seen. eval m footprint reads b (record { registers = k.registers; effect = k.effect; seen = seen }))) (sym head)
    ∙ ap (λ l. else_eval (eval_on m footprint reads l a inner s) (λ seen. eval m footprint reads b (record { registers = save.registers; effect = save.effect; seen = seen }))) (sym e.1)
choice_first m footprint reads a b p q (zero ∷ path) rest save saves inner s some e =
    ap (λ l. eval_on m footprint reads (zero ∷ path) (OrElse' p a q b) l s) (sym e.2)
    ∙ ap (λ l. else_eval (eval_on m footprint reads l a inner s) (λ seen. eval m footprint reads b (record { registers = save.registers; effect = save.effect; seen = seen }))) (sym e.1)
choice_first m footprint reads a b p q (suc i ∷ path) rest save saves inner s some e = let no : true ≡ false = e.0 in cc

-- what a choice goes on with where its first branch retries
abbrev second_of : StepMeanings → (List ℕ → List ℕ) → List (ℕ × ℤ) → Tx → Save → Taken → Flow
second_of m footprint reads b save seen = eval m footprint reads b (record { registers = save.registers; effect = save.effect; seen = seen })

module _ (m : StepMeanings) (footprint : List ℕ → List ℕ) (seen : Taken) (a b : Tx) (p q : _) (before inside after : Place) (save : Save) (left : List Bool)
    (start : (reads : List (ℕ × ℤ)) (more : List Bool) → eval_from m footprint reads (OrElse' p a q b) before (with_more seen more) ≡ else_eval (eval_from m footprint reads a inside (with_more seen more)) (second_of m footprint reads b save)) where
  -- a choice whose first branch has not retried
  pub first_leads : (out : Out) → (out ≡ Gave_way → ⊥) → LeadsTo m footprint seen a inside out after left
      → LeadsTo m footprint seen (OrElse' p a q b) before out (record { path = with_child out 0 after.path; saves = save ∷ after.saves; registers = after.registers; effect = after.effect }) left
  first_leads out some l = record {
    asks = λ ask is. start seen.reads [] ∙ ap (λ f. else_eval f (second_of m footprint seen.reads b save)) (l.asks ask is);
    spent = l.spent;
    goes_on = λ reads n more c d. start reads more ∙ ap (λ f. else_eval f (second_of m footprint reads b save)) (l.goes_on reads n more c d) ∙ on reads out some _;
  } where
    on : (reads : List (ℕ × ℤ)) (out : Out) → (out ≡ Gave_way → ⊥) → (seen : Taken)
        → else_eval (behind m footprint reads a out after seen) (second_of m footprint reads b save) ≡ behind m footprint reads (OrElse' p a q b) out (record { path = with_child out 0 after.path; saves = save ∷ after.saves; registers = after.registers; effect = after.effect }) seen
    on reads Gave_way some seen = absurd (some refl)
    on reads out some seen = refl

  -- a choice whose first branch has retried
  pub retried_start : (saves : List Save) → LeadsTo m footprint seen a inside Gave_way after left → (reads : List (ℕ × ℤ)) (more : List Bool) → Covers reads seen.reads
      → eval_from m footprint reads (OrElse' p a q b) before (with_more seen more) ≡ eval_from m footprint reads b (record { path = []; saves = saves; registers = save.registers; effect = save.effect }) (with_more (with_left seen left) more)
  retried_start saves l reads more c =
      start reads more ∙ ap (λ f. else_eval f (second_of m footprint reads b save)) (l.goes_on reads (pos 0) more c c)
