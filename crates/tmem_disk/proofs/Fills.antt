-- What a crash makes of the unsynced bytes.
use Rattle.std.proofs.Common.{◌≡◌, ℕ, zero, suc, ◌<◌, Bool, true, false, cond, List, [], ◌∷◌, length, take, set, get_or, refl, sym, ◌∙◌, ap, arith}
use Rattle.std.proofs.lemmas.Bool.{false≢true}
use Rattle.tmem_disk.specs.Sim.{LeftBy, stamped}

stamped-nil : (byte : ℕ) (bytes : List ℕ) → stamped byte bytes [] ≡ bytes
stamped-nil byte [] = refl
stamped-nil byte (b ∷ bytes) = refl

-- one offset more, which is unsynced
pub stamp_unsynced : (byte : ℕ) (bytes : List ℕ) (unsynced : List Bool) (i : ℕ) → i < length unsynced → i < length bytes → get_or unsynced i false ≡ true
    → set (stamped byte bytes (take i unsynced)) i byte ≡ stamped byte bytes (take (suc i) unsynced)
stamp_unsynced byte bytes [] i below within is_unsynced = absurd (omega arith)
stamp_unsynced byte [] (m ∷ unsynced) i below within is_unsynced = absurd (omega arith)
stamp_unsynced byte (b ∷ bytes) (true ∷ unsynced) zero below within is_unsynced = ap (λ (l : List ℕ). byte ∷ l) (sym (stamped-nil byte bytes))
stamp_unsynced byte (b ∷ bytes) (false ∷ unsynced) zero below within is_unsynced = absurd (false≢true is_unsynced)
stamp_unsynced byte (b ∷ bytes) (m ∷ unsynced) (suc i) below within is_unsynced = ap (λ (l : List ℕ). cond m byte b ∷ l) (stamp_unsynced byte bytes unsynced i (omega arith) (omega arith) is_unsynced)

-- one offset more, which is not
pub stamp_synced : (byte : ℕ) (bytes : List ℕ) (unsynced : List Bool) (i : ℕ) → i < length unsynced → i < length bytes → get_or unsynced i false ≡ false
    → stamped byte bytes (take i unsynced) ≡ stamped byte bytes (take (suc i) unsynced)
stamp_synced byte bytes [] i below within is_synced = absurd (omega arith)
stamp_synced byte [] (m ∷ unsynced) i below within is_synced = absurd (omega arith)
stamp_synced byte (b ∷ bytes) (false ∷ unsynced) zero below within is_synced = ap (λ (l : List ℕ). b ∷ l) (sym (stamped-nil byte bytes))
stamp_synced byte (b ∷ bytes) (true ∷ unsynced) zero below within is_synced = absurd (false≢true (sym is_synced))
stamp_synced byte (b ∷ bytes) (m ∷ unsynced) (suc i) below within is_synced = ap (λ (l : List ℕ). cond m byte b ∷ l) (stamp_synced byte bytes unsynced i (omega arith) (omega arith) is_synced)

length-stamped : (byte : ℕ) (bytes : List ℕ) (unsynced : List Bool) → length (stamped byte bytes unsynced) ≡ length bytes
length-stamped byte [] unsynced = refl
length-stamped byte (b ∷ bytes) [] = refl
length-stamped byte (b ∷ bytes) (m ∷ unsynced) = ap suc (length-stamped byte bytes unsynced)

-- a synced offset keeps its byte
stamped-synced : (byte : ℕ) (bytes : List ℕ) (unsynced : List Bool) (i : ℕ) → get_or unsynced i true ≡ false → get_or (stamped byte bytes unsynced) i 0 ≡ get_or bytes i 0
stamped-synced byte [] unsynced i is_synced = refl
stamped-synced byte (b ∷ bytes) [] i is_synced = refl
stamped-synced byte (b ∷ bytes) (false ∷ unsynced) zero is_synced = refl
stamped-synced byte (b ∷ bytes) (true ∷ unsynced) zero is_synced = absurd (false≢true (sym is_synced))
stamped-synced byte (b ∷ bytes) (m ∷ unsynced) (suc i) is_synced = stamped-synced byte bytes unsynced i is_synced

-- a byte in each unsynced offset is one of the things that a crash may leave
pub LeftBy-stamped : (byte : ℕ) (synced : List ℕ) (unsynced : List Bool) (present : List ℕ) → LeftBy synced unsynced present → LeftBy synced unsynced (stamped byte present unsynced)
LeftBy-stamped byte synced unsynced present agrees = record {
  size = length-stamped byte present unsynced ∙ agrees.size;
  stays = λ i is_synced. stamped-synced byte present unsynced i is_synced ∙ agrees.stays i is_synced;
}
