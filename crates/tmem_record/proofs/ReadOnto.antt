-- Records that are committed as they are read.
use Rattle.std.proofs.Common.{◌≡◌, ◌<◌, ◌≤◌, ◌+◌, ◌^◌, ℕ, List, [], ◌∷◌, ◌++◌, length, take, drop, flat_map, refl, sym, ◌∙◌, ap, subst}
use Rattle.std.specs.Prelude.{All}
use Rattle.std.proofs.lemmas.List.{take-append-drop}
use Rattle.std.proofs.lemmas.List.Elements.{All-nil}
use Rattle.tmem_effect.specs.State.{State, IsWithin, StaysWithin, apply, fold}
use Rattle.tmem_effect.specs.declared.effect.Effect.{Effect}
use Rattle.tmem_effect.proofs.Laws.{fold-push, length-values-fold, StaysWithin-first, StaysWithin-back, StaysWithin-push}
use Rattle.tmem_state.specs.Batch.{IsRecordIn, IsBatchIn}
use Rattle.tmem_state.specs.declared.version.Version.{Version}
use Rattle.tmem_record.specs.Spelling.{number_bytes, record_bytes, batch_bytes, SpellsBatch}
use Rattle.tmem_record.specs.Onto.{CommitsRecords}
use Rattle.tmem_record.proofs.CodecReads.{ReadRecords, record_more, one_next, no_record_next, split_batch}
use Rattle.tmem_record.proofs.SpellingLaws.{delimits_record}

-- where no batch that the state takes is spelled in front of a rest, no beginning of the bytes spells one
pub no_beginning_onto : (v : Version) (vars : ℕ) (s : State) (bytes : List ℕ) → ((g f : ℕ) (es : List Effect) (r : List ℕ) → g < 2 ^ 64 → f < 2 ^ 64 → IsBatchIn v vars es → bytes ≡ batch_bytes v g f es ++ r → StaysWithin s es → ⊥)
    → (g f n : ℕ) (es : List Effect) → SpellsBatch v vars g f es (take n bytes) → StaysWithin s es → ⊥
no_beginning_onto v vars s bytes none g f n es spells within =
    none g f es (drop n bytes) spells.generation_fits spells.first_fits spells.batch (sym (take-append-drop n bytes) ∙ ap (λ (l : List ℕ). l ++ drop n bytes) spells.spelled) within

-- where no such records stand behind a head, no such batch is spelled there
module _ (v : Version) (vars g f n : ℕ) (bytes b8 b16 behind : List ℕ) (fits_g : g < 2 ^ 64) (fits_f : f < 2 ^ 64) (fits_n : n < 2 ^ 16) (first : bytes ≡ number_bytes 8 g ++ b8) (second : b8 ≡ number_bytes 8 f ++ b16) (third : b16 ≡ number_bytes 2 n ++ behind) (s : State) where
  pub no_records_onto : ((es : List Effect) (t : List ℕ) → length es ≡ n → All (IsRecordIn v vars) es → behind ≡ flat_map (record_bytes v) es ++ t → StaysWithin s es → ⊥)
      → (g' f' : ℕ) (es : List Effect) (r : List ℕ) → g' < 2 ^ 64 → f' < 2 ^ 64 → IsBatchIn v vars es → bytes ≡ batch_bytes v g' f' es ++ r → StaysWithin s es → ⊥
  no_records_onto none g' f' es r fits_g' fits_f' is same within =
      let split = split_batch v vars g f n bytes b8 b16 behind fits_g fits_f fits_n first second third g' f' es r fits_g' fits_f' is same in
      none es r (sym split.0) is.each split.1 within

-- nothing yet
pub none_yet : (v : Version) (vars : ℕ) (s : State) (bytes : List ℕ) → IsWithin s → CommitsRecords v vars 0 s bytes bytes s
none_yet v vars s bytes within = record { es = []; counted = refl; each = All-nil (IsRecordIn v vars); found = refl; within = within; state = refl }

-- so many records were committed, and this is left
module _ (v : Version) (vars : ℕ) (s : State) (bytes : List ℕ) (i : ℕ) (rest : List ℕ) (t : State) (had : CommitsRecords v vars i s bytes rest t) where
  read : ReadRecords v vars i had.es bytes rest
  read = record { valid = had.each; counted = had.counted; left = had.found }

  pub still_sized : length t.values ≡ length s.values
  still_sized = ap (λ (u : State). length u.values) (sym had.state) ∙ length-values-fold s had.es

  -- one record more
  pub one_committed : (e : Effect) (next : List ℕ) → IsRecordIn v vars e → rest ≡ record_bytes v e ++ next → IsWithin (apply t e) → CommitsRecords v vars (i + 1) s bytes next (apply t e)
  one_committed e next is same within =
      let more = record_more v vars i had.es e bytes rest next read is same in
      record {
        es = had.es ++ e ∷ [];
        counted = more.counted;
        each = more.valid;
        found = more.left;
        within = StaysWithin-push s had.es e had.within (subst (λ (u : State). IsWithin (apply u e)) (sym had.state) within);
        state = fold-push s had.es e ∙ ap (λ (u : State). apply u e) had.state;
      }

  -- where no record is spelled next, no list of so many is
  pub none_spelled : (count : ℕ) → vars ≤ 2 ^ 16 → i < count → ((e : Effect) (r : List ℕ) → IsRecordIn v vars e → rest ≡ record_bytes v e ++ r → ⊥)
      → (es : List Effect) (r : List ℕ) → length es ≡ count → All (IsRecordIn v vars) es → bytes ≡ flat_map (record_bytes v) es ++ r → StaysWithin s es → ⊥
  none_spelled count few less none es r counted each same within = no_record_next v vars count few bytes i had.es rest read less none es r counted each same

  -- where the next record takes the state past a limit, each list of so many does
  pub none_taken : (count : ℕ) → vars ≤ 2 ^ 16 → i < count → (e : Effect) (next : List ℕ) → IsRecordIn v vars e → rest ≡ record_bytes v e ++ next → (IsWithin (apply t e) → ⊥)
      → (es : List Effect) (r : List ℕ) → length es ≡ count → All (IsRecordIn v vars) es → bytes ≡ flat_map (record_bytes v) es ++ r → StaysWithin s es → ⊥
  none_taken count few less e next is here past es r counted each same within =
      let more = one_next (All (IsRecordIn v vars)) (IsRecordIn v vars) (record_bytes v) (λ xs all. all) (delimits_record v vars few) i count had.es bytes rest read less e next is here es r counted each same in
      let behind = StaysWithin-back s had.es (e ∷ more.0) (subst (StaysWithin s) more.1 within) in
      let after = StaysWithin-first (apply (fold s had.es) e) more.0 behind.1 in
      past (subst (λ (u : State). IsWithin (apply u e)) had.state after)
