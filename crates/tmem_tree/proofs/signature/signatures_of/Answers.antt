use Rattle.std.proofs.lemmas.Grind.{common_steps}
use Rattle.std.proofs.Common.{◌≡◌, ℕ, ◌+◌, ◌∷◌, [], ◌++◌, List, Some, length, map, take, ap, sym, subst, ◌∙◌, arith}
use Rattle.std.specs.Prelude.{slice_get}
use Rattle.std.proofs.Props.{props}
use Rattle.std.proofs.lemmas.List.{length-map, map-append, take_all, take_more}
use Rattle.std.proofs.lemmas.List.Elements.{All-push}
use Rattle.std.proofs.lemmas.Option.{get_or_from_slice_get, slice_get_within}
use mathlib.Core.Logic.{∥∥₁_elim}
use Rattle.tmem_invariants.specs.Meanings.{Meanings}
use Rattle.tmem_invariants.specs.TableNames.{AreBelow}
use Rattle.tmem_tree.specs.declared.signature.Signature.{Signature}
use Rattle.tmem_tree.specs.Signatures.{AreMeant, AreWithin}
use Rattle.tmem_tree.proofs.signature.signatures_of.Goals as goal

-- what is shown of one more
shown_more : {X : Type 0} (show : Signature → X) (was now : List Signature) (signature : Signature) (all : List X) (index : ℕ) → now ≡ was ++ signature ∷ [] → map show was ≡ take index all → slice_get all index ≡ Some (show signature) → map show now ≡ take (index + 1) all
shown_more show was now signature all index is so_far here =
    ap (map show) is
    ∙ map-append show was (signature ∷ [])
    ∙ ap (λ xs. xs ++ show signature ∷ []) so_far
    ∙ ap (λ x. take index all ++ x ∷ []) (sym (get_or_from_slice_get all index (show signature) (show signature) here))
    ∙ sym (take_more all index (show signature) (slice_get_within all index (show signature) here))

pub loop-index-preserved : goal.loop-index-preserved
loop-index-preserved g c =
    let t = g.T.Invariants in
    let was = c.loop-index.signatures.items in
    let signature = c.signature_at.result in
    let now = c.in_ok-push.ensures.items in
    record {
      names = shown_more (λ (s : Signature). s.name) was _ signature (t.names c.args.table.now) c.loop-index.index now c.loop-index.invariant.names c.signature_at.ensures.name;
      footprints = shown_more (λ (s : Signature). s.footprint) was _ signature (t.footprints c.args.table.now) c.loop-index.index now c.loop-index.invariant.footprints c.signature_at.ensures.footprint;
      meant = λ tests stated. subst (AreMeant tests) (sym now) (All-push (λ (s : Signature). s.footprint ≡ tests.footprint s.name) was signature (c.loop-index.invariant.meant tests stated) (c.signature_at.ensures.meant tests stated));
      within = subst (AreWithin (t.vars c.args.table.now)) (sym now) (All-push (λ (s : Signature). AreBelow (t.vars c.args.table.now) s.footprint) was signature c.loop-index.invariant.within c.signature_at.ensures.within);
    }

-- there are as many footprints as names, since there are meanings
pub returns-clause-footprints : goal.returns-clause-footprints
returns-clause-footprints g c =
    let t = g.T.Invariants in
    let table = c.args.table.now in
    let as_many : length (t.footprints table) ≡ length (t.names table) = ∥∥₁_elim (g.met.T.Invariants.has_meanings table) (hlevel props) (λ (stated : (m : Meanings) × t.is_stated table m). ap length (sym (g.met.T.Invariants.over table stated.0 stated.1)) ∙ length-map (t.names table) stated.0.footprint) in
    c.loop-index.invariant.footprints
    ∙ take_all c.loop-index.index (t.footprints table) (omega (arith, as_many, c.len-index-end.ensures))

pub returns-in_err-push-clause-within : goal.returns-in_err-push-clause-within
returns-in_err-push-clause-within g c = grind (arith, common_steps)

pub returns-clause-names : goal.returns-clause-names
returns-clause-names g c = grind (arith, common_steps)
