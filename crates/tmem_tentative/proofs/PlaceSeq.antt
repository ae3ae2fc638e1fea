-- The rest of the evaluation of a Seq, over the list of its trees.
use Rattle.std.proofs.Common.{◌≡◌, ℕ, zero, suc, ℤ, pos, ◌+◌, ◌<◌, ◌≤◌, Bool, List, [], ◌∷◌, drop, get_or, length, drop-cons, add-one, refl, sym, ap, ◌∙◌, arith, rules}
use mathlib.Core.Path.{fun_ext}
use Rattle.std.specs.declared.vec.Vec.{Vec}
use Rattle.std.specs.declared.alloc.Global.{Global}
use Rattle.tmem_tree.specs.declared.signature.Signature.{Signature}
use Rattle.tmem_tree.specs.declared.tx.Tx.{Tx, Row_of-Tx, end_of-Tx, more_of-Tx}
use Rattle.tmem_tree.specs.declared.tx.Tx.TheVariants.{Seq}
use Rattle.tmem_tree.specs.declared.tx.Tx.TheBlock.{items-the_row-Tx}
use Rattle.tmem_tree.specs.declared.tx.Tx.TheViews.{the_lemmas}
use Rattle.tmem_tree.proofs.Laws.{count_items, depth_items, choices_in, count-Seq, depth-Seq, choices-Seq}
use Rattle.tmem_tree.specs.Limits.{depth, count, is_write, is_check, is_retire, has_bad_register, has_bad_step, has_bad_arguments, lacks_signature}
use Rattle.tmem_tree.specs.StepAnswers.{StepMeanings}
use Rattle.tmem_tentative.specs.declared.save.Save.{Save}
use Rattle.tmem_tentative.specs.Eval.{RunState, Taken, Flow, Goes, then_eval}
use Rattle.tmem_tentative.specs.Logs.{AreOf, Out, Went, Stopped}
use Rattle.tmem_tentative.specs.Places.{Covers, Place, LeadsTo, MayRunFrom, RunsTo, WritesFit, NamesFit, RetiresFit, eval_on, eval_all_on, eval_from, with_more, behind, Enters}
use Rattle.tmem_tentative.proofs.EvalSeen.{covers_refl}
use Rattle.tmem_tentative.proofs.EvalSeq.{eval_in, eval-Seq, eval_all-items}
use Rattle.tmem_tentative.proofs.PlaceRoom.{RoomIn, path_grows, seq_room, seq_leaves, seq_next}
use Rattle.tmem_tentative.proofs.PlaceRuns.{with_left, in_child}

-- the first from a place inside it, and the others from their starts
abbrev pub eval_in_on : StepMeanings → (List ℕ → List ℕ) → List (ℕ × ℤ) → List Tx → List ℕ → List Save → RunState → Flow
eval_in_on m footprint reads [] path saves s = Goes s
eval_in_on m footprint reads (tx ∷ txs) path saves s = then_eval (eval_on m footprint reads path tx saves s) (eval_in m footprint reads txs)

module _ (m : StepMeanings) (footprint : List ℕ → List ℕ) (reads : List (ℕ × ℤ)) where
  pub eval_in_on-start : (txs : List Tx) (saves : List Save) (s : RunState) → eval_in m footprint reads txs s ≡ eval_in_on m footprint reads txs [] saves s
  eval_in_on-start [] saves s = refl
  eval_in_on-start (tx ∷ txs) saves s = refl

  eval_all_on-items : (i : ℕ) (path : List ℕ) {k : _} (txs : Row_of-Tx k) (saves : List Save) (s : RunState) → eval_all_on m footprint reads i path txs saves s ≡ eval_in_on m footprint reads (drop i (items-the_row-Tx k txs)) path saves s
  eval_all_on-items zero path end_of-Tx saves s = refl
  eval_all_on-items (suc i) path end_of-Tx saves s = refl
  eval_all_on-items zero path (more_of-Tx tx txs) saves s = ap (then_eval (eval_on m footprint reads path tx saves s)) (fun_ext (eval_all-items m footprint reads txs))
  eval_all_on-items (suc i) path (more_of-Tx tx txs) saves s = eval_all_on-items i path txs saves s

  pub eval_on-Seq : (i : ℕ) (path : List ℕ) (txs : Vec Tx Global) (saves : List Save) (s : RunState) → eval_on m footprint reads (i ∷ path) (Seq txs) saves s ≡ eval_in_on m footprint reads (drop i txs.items) path saves s
  eval_on-Seq i path txs saves s = search (rules, the_lemmas, eval_all_on-items i path)

  pub seq_start : (txs : Vec Tx Global) (path : List ℕ) (from : ℕ) (rest : List ℕ) (saves : List Save) (s : RunState) → Enters path 0 from rest → eval_on m footprint reads path (Seq txs) saves s ≡ eval_in_on m footprint reads (drop from txs.items) rest saves s
  seq_start txs [] from rest saves s e =
      eval-Seq m footprint reads txs s ∙ eval_in_on-start txs.items saves s ∙ sym (ap (λ k. eval_in_on m footprint reads (drop k txs.items) rest saves s) e.0 ∙ ap (λ l. eval_in_on m footprint reads txs.items l saves s) e.1)
  seq_start txs (i ∷ path) from rest saves s e =
      eval_on-Seq i path txs saves s ∙ sym (ap (λ k. eval_in_on m footprint reads (drop k txs.items) rest saves s) e.0 ∙ ap (λ l. eval_in_on m footprint reads (drop i txs.items) l saves s) e.1)

-- a Seq one of whose trees has ended as the Seq does, or goes on later
pub seq_leads : (m : StepMeanings) (footprint : List ℕ → List ℕ) (seen : Taken) (kept : List Bool) (txs : Vec Tx Global) (k : ℕ) (tx : Tx) (others : List Tx) (before inside : Place) (out : Out) (after : Place) (left : List Bool)
    → drop k txs.items ≡ tx ∷ others
    → ((reads : List (ℕ × ℤ)) (more : List Bool) → Covers reads seen.reads → eval_from m footprint reads (Seq txs) before (with_more seen more) ≡ eval_in_on m footprint reads (tx ∷ others) inside.path inside.saves (record { registers = inside.registers; effect = inside.effect; seen = with_more (with_left seen kept) more }))
    → (out ≡ Went → ⊥) → LeadsTo m footprint (with_left seen kept) tx inside out after left
    → LeadsTo m footprint seen (Seq txs) before out (in_child out k after) left
seq_leads m footprint seen kept txs k tx others before inside out after left here start some l = record {
  asks = λ ask is. start seen.reads [] (covers_refl seen.reads) ∙ ap (λ f. then_eval f (eval_in m footprint seen.reads others)) (l.asks ask is);
  spent = l.spent;
  goes_on = λ reads n more c d. start reads more c ∙ ap (λ f. then_eval f (eval_in m footprint reads others)) (l.goes_on reads n more c d) ∙ on reads out some _;
} where
  on : (reads : List (ℕ × ℤ)) (out : Out) → (out ≡ Went → ⊥) → (seen : Taken) → then_eval (behind m footprint reads tx out after seen) (eval_in m footprint reads others) ≡ behind m footprint reads (Seq txs) out (in_child out k after) seen
  on reads Went some seen = absurd (some refl)
  on reads (Stopped ask) some seen =
      let s : RunState = record { registers = after.registers; effect = after.effect; seen = seen } in
      sym (eval_on-Seq m footprint reads k after.path txs after.saves s ∙ ap (λ ts. eval_in_on m footprint reads ts after.path after.saves s) here)
  on reads out some seen = refl

pub here_is : (txs : List Tx) (i : ℕ) (tx : Tx) → i < length txs → tx ≡ get_or txs i tx → drop i txs ≡ tx ∷ drop (i + 1) txs
here_is txs i tx h is = drop-cons txs i tx h ∙ ap (λ t. t ∷ drop (suc i) txs) (sym is) ∙ ap (λ k. tx ∷ drop k txs) (sym (add-one i))

pub count_items-drop : (test : Tx → Bool) (i : ℕ) (txs : List Tx) → count_items test (drop i txs) ≤ count_items test txs
count_items-drop test zero [] = omega arith
count_items-drop test (suc i) [] = omega arith
count_items-drop test zero (tx ∷ txs) = omega arith
count_items-drop test (suc i) (tx ∷ txs) = omega (arith, count_items-drop test i txs)

pub depth_items-drop : (i : ℕ) (txs : List Tx) → depth_items (drop i txs) ≤ depth_items txs
depth_items-drop zero [] = omega arith
depth_items-drop (suc i) [] = omega arith
depth_items-drop zero (tx ∷ txs) = omega arith
depth_items-drop (suc i) (tx ∷ txs) = omega (arith, depth_items-drop i txs)

pub choices_in-drop : (i : ℕ) (txs : List Tx) → choices_in (drop i txs) ≤ choices_in txs
choices_in-drop zero [] = omega arith
choices_in-drop (suc i) [] = omega arith
choices_in-drop zero (tx ∷ txs) = omega arith
choices_in-drop (suc i) (tx ∷ txs) = omega (arith, choices_in-drop i txs)

-- a tree of a Seq that has ended normally, and the next from its start
pub seq_goes : (m : StepMeanings) (footprint : List ℕ → List ℕ) (seen : Taken) (left : List Bool) (reads : List (ℕ × ℤ)) (more : List Bool) (tx : Tx) (others : List Tx) (before after : Place) → LeadsTo m footprint seen tx before Went after left → Covers reads seen.reads
    → eval_in_on m footprint reads (tx ∷ others) before.path before.saves (record { registers = before.registers; effect = before.effect; seen = with_more seen more })
    ≡ eval_in_on m footprint reads others [] after.saves (record { registers = after.registers; effect = after.effect; seen = with_more (with_left seen left) more })
seq_goes m footprint seen left reads more tx others before after l covers =
    ap (λ f. then_eval f (eval_in m footprint reads others)) (l.goes_on reads (pos 0) more covers covers)
    ∙ eval_in_on-start m footprint reads others after.saves (record { registers = after.registers; effect = after.effect; seen = with_more (with_left seen left) more })

module _ (IsStated : StepMeanings → Type 0) (signatures : List Signature) (seen : Taken) where
  -- what is left of a tree, the first from a place inside it, and of the answers: the tree goes on there
  pub record IsLeft (tree : Tx) (before : Place) (txs : List Tx) (here : Place) (kept : List Bool) : Type 0 where
    pub counts : (test : Tx → Bool) → count_items test txs ≤ count test tree
    pub deep : depth_items txs < depth tree
    pub enough : choices_in txs ≤ length here.saves
    pub writes : (rest : ℕ) → WritesFit rest before.path tree before.saves before.effect → RoomIn is_write 64 (λ e. length e.writes) rest txs here.path here.saves (length here.effect.writes)
    pub names : (rest : ℕ) → NamesFit rest before.path tree before.saves before.effect → RoomIn is_check 8 (λ e. length e.names) rest txs here.path here.saves (length here.effect.names)
    pub retires : (rest : ℕ) → RetiresFit rest before.path tree before.saves before.effect → RoomIn is_retire 8 (λ e. length e.retired) rest txs here.path here.saves (length here.effect.retired)
    pub leads : (m : StepMeanings) (footprint : List ℕ → List ℕ) → IsStated m → AreOf signatures footprint → (reads : List (ℕ × ℤ)) (more : List Bool) → Covers reads seen.reads
        → eval_from m footprint reads tree before (with_more seen more) ≡ eval_in_on m footprint reads txs here.path here.saves (record { registers = here.registers; effect = here.effect; seen = with_more (with_left seen kept) more })

  -- a Seq that is entered
  pub enter_seq : {arities : List ℕ} {invariants : List (List ℕ)} {before : Place} {left : List ℕ} (txs : Vec Tx Global) (from : ℕ) → Enters before.path 0 from left → MayRunFrom arities invariants (Seq txs) before → IsLeft (Seq txs) before (drop from txs.items) (record before { path = left }) seen.left
  enter_seq {before = before} {left = left} txs from e may = record {
    counts = λ test. omega (arith, count-Seq test txs, count_items-drop test from txs.items);
    deep = omega (arith, depth-Seq txs, depth_items-drop from txs.items);
    enough = omega (arith, may.enough, choices-Seq txs, choices_in-drop from txs.items);
    writes = λ rest. seq_room is_write 64 (λ e. length e.writes) rest txs before.path from left before.saves (length before.effect.writes) e;
    names = λ rest. seq_room is_check 8 (λ e. length e.names) rest txs before.path from left before.saves (length before.effect.names) e;
    retires = λ rest. seq_room is_retire 8 (λ e. length e.retired) rest txs before.path from left before.saves (length before.effect.retired) e;
    leads = λ m footprint stated of reads more c. seq_start m footprint reads txs before.path from left before.saves _ e;
  }

  module _ {arities : List ℕ} {invariants : List (List ℕ)} {tree : Tx} {before : Place} (may : MayRunFrom arities invariants tree before) where
    -- its first tree
    pub first_may : {tx : Tx} {txs : List Tx} {here : Place} {kept : List Bool} → IsLeft tree before (tx ∷ txs) here kept → MayRunFrom arities invariants tx here
    first_may {tx} {txs} is = record {
      registers = omega (arith, may.registers, is.counts has_bad_register);
      steps = record { there = omega (arith, may.steps.there, is.counts (has_bad_step arities)); given = omega (arith, may.steps.given, is.counts (has_bad_arguments arities)) };
      known = omega (arith, may.known, is.counts (lacks_signature invariants));
      deep = omega (arith, may.deep, is.deep);
      enough = omega (arith, is.enough);
      writes = (count_items is_write txs + may.writes.0, is.writes may.writes.0 may.writes.1);
      names = (count_items is_check txs + may.names.0, is.names may.names.0 may.names.1);
      retires = (count_items is_retire txs + may.retires.0, is.retires may.retires.0 may.retires.1);
    }

    -- none is left
    pub all_run : {here : Place} {kept : List Bool} → IsLeft tree before [] here kept → RunsTo IsStated signatures seen tree before Went here kept
    all_run is = record {
      path = (is.writes may.writes.0 may.writes.1).0;
      writes = λ rest h. (is.writes rest h).1;
      names = λ rest h. (is.names rest h).1;
      retires = λ rest h. (is.retires rest h).1;
      leads = λ m footprint stated of. record { asks = λ ask e. cc; spent = λ name values e. cc; goes_on = λ reads n more c d. is.leads m footprint stated of reads more c };
    }

  -- behind its first tree that has ended normally
  pub next_left : {tree tx : Tx} {txs : List Tx} {before here after : Place} {kept left : List Bool} → length after.saves ≡ length here.saves → IsLeft tree before (tx ∷ txs) here kept → RunsTo IsStated signatures (with_left seen kept) tx here Went after left → IsLeft tree before txs after left
  next_left {tx = tx} {txs = txs} {here = here} {after = after} {kept = kept} {left = left} same is r = record {
    counts = λ test. omega (arith, is.counts test);
    deep = omega (arith, is.deep);
    enough = omega (arith, is.enough);
    writes = λ rest h. seq_next is_write 64 (λ e. length e.writes) rest tx txs after.path after.saves after.effect r.path (r.writes _ (is.writes rest h));
    names = λ rest h. seq_next is_check 8 (λ e. length e.names) rest tx txs after.path after.saves after.effect r.path (r.names _ (is.names rest h));
    retires = λ rest h. seq_next is_retire 8 (λ e. length e.retired) rest tx txs after.path after.saves after.effect r.path (r.retires _ (is.retires rest h));
    leads = λ m footprint stated of reads more c.
        is.leads m footprint stated of reads more c ∙ seq_goes m footprint (with_left seen kept) left reads more tx txs here after (r.leads m footprint stated of) c
        ∙ ap (λ l. eval_in_on m footprint reads txs l after.saves (record { registers = after.registers; effect = after.effect; seen = with_more (with_left seen left) more })) (sym r.path);
  }

  -- behind one that has not
  pub part_runs : {tx : Tx} {others : List Tx} {before here after : Place} {kept left : List Bool} {out : Out} (txs : Vec Tx Global) (k : ℕ) → drop k txs.items ≡ tx ∷ others → (out ≡ Went → ⊥)
      → IsLeft (Seq txs) before (tx ∷ others) here kept → RunsTo IsStated signatures (with_left seen kept) tx here out after left → RunsTo IsStated signatures seen (Seq txs) before out (in_child out k after) left
  part_runs {tx} {others} {before} {here} {after} {kept} {left} {out} txs k key some is r = record {
    path = path_grows out _ _ k after.path r.path (omega (arith, is.deep));
    writes = λ rest h. seq_leaves is_write 64 (λ e. length e.writes) rest k txs tx others out after.path after.saves after.effect key some (r.writes _ (is.writes rest h));
    names = λ rest h. seq_leaves is_check 8 (λ e. length e.names) rest k txs tx others out after.path after.saves after.effect key some (r.names _ (is.names rest h));
    retires = λ rest h. seq_leaves is_retire 8 (λ e. length e.retired) rest k txs tx others out after.path after.saves after.effect key some (r.retires _ (is.retires rest h));
    leads = λ m footprint stated of. seq_leads m footprint seen kept txs k tx others before here out after left key (is.leads m footprint stated of) some (r.leads m footprint stated of);
  }
