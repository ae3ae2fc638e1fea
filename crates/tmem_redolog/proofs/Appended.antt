-- From what a crash leaves of a slot to what it leaves of the log.
use Rattle.std.proofs.Common.{◌≡◌, ℕ, ◌+◌, ◌<◌, ◌≤◌, List, length, ap, subst, arith}
use Rattle.tmem_disk.specs.Disk.{DeviceView}
use Rattle.tmem_gate.specs.Calls.{WritesWithin}
use Rattle.tmem_gate.specs.Cells.{LeftClosed, LeftOpen}
use Rattle.tmem_gate.specs.Changes.{ChangeOutcome, Puts}
use Rattle.tmem_gate.specs.Gate.{StandsClosed}
use Rattle.tmem_gate.proofs.Laws.{Puts-more}
use Rattle.tmem_state.specs.Batch.{IsBatchIn}
use Rattle.tmem_record.specs.Layout.{slot_at}
use Rattle.tmem_record.specs.Spelling.{batch_bytes}
use Rattle.tmem_state.specs.declared.version.Version.TheVariants.{Two}
use Rattle.tmem_redolog.specs.Appends.{BatchPlaced, WithoutBatch, WithBatch}
use Rattle.tmem_redolog.proofs.Logs.{without, with_batch, closed_behind, length-batch_bytes-le}

-- where the batch goes, and the bytes that spell it
abbrev pub at_of : BatchPlaced → ℕ
at_of p = slot_at p.vars p.slot

abbrev pub bytes_of : BatchPlaced → List ℕ
bytes_of p = batch_bytes Two p.generation p.first p.batch

module _ (p : BatchPlaced) (room : p.slot < p.slots) (is : IsBatchIn Two p.vars p.batch) where
  short : length (bytes_of p) ≤ 4095
  short = length-batch_bytes-le Two p.vars p.generation p.first p.batch is

  -- as the bytes were spelled, at the offset that was found
  module _ (offset : ℕ) (spelled : List ℕ) (old new : DeviceView) (o : ChangeOutcome) (here : offset ≡ at_of p) (same : spelled ≡ bytes_of p) where
    no : (b c : List ℕ) → LeftClosed offset (length spelled) b c → WithoutBatch p b c
    no b c left = without p (length (bytes_of p)) short b c (subst (λ (l : List ℕ). LeftClosed (at_of p) (length l) b c) same (subst (λ (n : ℕ). LeftClosed n (length spelled) b c) here left))

    yes : (b c : List ℕ) → LeftOpen offset spelled old.seen b c → WithBatch p b c
    yes b c left = with_batch p room is old.seen b c (subst (λ (l : List ℕ). LeftOpen (at_of p) l old.seen b c) same (subst (λ (n : ℕ). LeftOpen n spelled old.seen b c) here left))

    pub append_put : Puts offset (1 + length spelled) (LeftClosed offset (length spelled)) (LeftOpen offset spelled old.seen) old new o → Puts (at_of p) 4096 (WithoutBatch p) (WithBatch p) old new o
    append_put = Puts-more offset (1 + length spelled) (at_of p) 4096 _ _ (WithoutBatch p) (WithBatch p) old new o (omega (arith, here)) (omega (arith, here, short, ap length same)) no yes

-- each closed slot behind stays closed
pub still_closed : (vars used : ℕ) (old new : DeviceView) → (new.keeps_model → old.keeps_model) → WritesWithin (slot_at vars used) 4096 old new → (k : ℕ) → used < k → StandsClosed (slot_at vars k) old → StandsClosed (slot_at vars k) new
still_closed vars used old new model within k above closed = record {
  each = λ keeps c left.
      let from = within.crash.each keeps c left in
      closed_behind vars used from.0 c from.2 k above (closed.each (model keeps) from.0 from.1);
}
