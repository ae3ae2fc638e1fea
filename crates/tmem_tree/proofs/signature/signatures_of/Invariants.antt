use Rattle.std.proofs.Common.{◌≡◌, map, take}
use Rattle.tmem_invariants.specs.Meanings.{Meanings}
use Rattle.tmem_tree.specs.declared.signature.Signature.{Signature}
use Rattle.tmem_tree.specs.Signatures.{AreMeant, AreWithin, names_of}
use Rattle.tmem_tree.proofs.signature.signatures_of.Given as goal

abbrev pub invariant-loop-index : goal.invariant-loop-index
invariant-loop-index g l =
    let t = g.T.Invariants in
    record {
      names : names_of l.signatures.items ≡ take l.index (t.names l.table);
      footprints : map (λ (signature : Signature). signature.footprint) l.signatures.items ≡ take l.index (t.footprints l.table);
      meant : (tests : Meanings) → t.is_stated l.table tests → AreMeant tests l.signatures.items;
      within : AreWithin (t.vars l.table) l.signatures.items;
    }
