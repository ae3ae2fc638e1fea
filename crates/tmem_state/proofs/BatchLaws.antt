-- Laws of batches: what one holds in memory, and how long its records are.
use Rattle.std.proofs.Common.{◌≡◌, ℕ, ℤ, ◌+◌, ◌*◌, ◌<◌, ◌≤◌, List, [], ◌∷◌, ◌++◌, length, take, set, sum_by, All, arith, length-set}
use Rattle.std.proofs.lemmas.List.{take_more_set}
use Rattle.std.proofs.lemmas.List.Elements.{All-push}
use Rattle.std.proofs.lemmas.List.Sums.{sum_by_push, sum_by-le}
use Rattle.tmem_fault.specs.Name.{IsName}
use Rattle.tmem_effect.specs.State.{AreWrites, AreChecks}
use Rattle.tmem_effect.specs.declared.effect.Effect.{Effect}
use Rattle.tmem_state.specs.Batch.{record_length, records_length, IsBatch, IsBatched, FillsRecords, FillsBatch}

pub records_length-push : (es : List Effect) (e : Effect) → records_length (es ++ e ∷ []) ≡ records_length es + record_length e
records_length-push es e = sum_by_push record_length es e

-- one record more
pub FillsRecords-push : (effects : List Effect) (len : ℕ) (e : Effect) → FillsRecords effects len → len < 64 → IsBatched e → FillsRecords (set effects len e) (len + 1)
FillsRecords-push effects len e filled room is =
    let more : take (len + 1) (set effects len e) ≡ take len effects ++ e ∷ [] = take_more_set effects len e (omega (arith, filled.made)) in
    record {
      made = omega (arith, length-set effects len e, filled.made);
      few = omega arith;
      each = rw more (All-push IsBatched (take len effects) e filled.each is);
    }

-- what is in the memory of a batch is a batch over as many variables as its writes name, unless it is empty
pub IsBatch-filled : (es : List Effect) (used : ℕ) → FillsBatch es used → length es ≤ 64 → All IsBatched es → (vars : ℕ) → 1 ≤ length es → All (λ (e : Effect). All (λ (w : ℕ × ℤ). w.0 < vars) e.writes) es → IsBatch vars es
IsBatch-filled es used filled few are vars some within = record {
  some = some;
  few = few;
  each = λ k d below. let e = are k d below in record { loggable = record { effect = record { writes = e.writes; within = within k d below; names = e.names; retired = e.retired; apart = e.apart }; not_empty = e.not_empty }; may_retire = tt };
  fits = omega (arith, filled.counts, filled.fits);
}

-- each name has at most 17 bytes with its length
sum_by-names : (ns : List (List ℕ)) → All IsName ns → sum_by (λ n. 1 + length n) ns ≤ 17 * length ns
sum_by-names ns names = omega (arith, sum_by-le (λ n. 1 + length n) 17 ns (λ k d below. let name = names k d below in omega (arith, name.short)))

-- a record has at most 915 bytes
pub record_length-le : (e : Effect) → AreWrites e.writes → AreChecks e.names → AreChecks e.retired → record_length e ≤ 915
record_length-le e writes names retired = omega (arith, writes.few, names.few, retired.few, sum_by-names e.names names.names, sum_by-names e.retired retired.names)
