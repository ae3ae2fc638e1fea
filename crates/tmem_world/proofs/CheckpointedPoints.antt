-- The point of a run after a checkpoint.
use Rattle.std.proofs.Common.{◌≡◌, ◌⊎◌, inl, ℕ, ◌+◌, ◌<◌, ◌^◌, Bool, true, false, nat_eq, refl, sym, ◌∙◌, ap, subst, arith}
use Rattle.std.specs.Prelude.{Result, Ok, Err}
use Rattle.std.proofs.Math.Logic.{∥∥₁_map}
use Rattle.std.proofs.lemmas.Bool.Decides.{nat_tests}
use Rattle.tmem_disk.specs.Disk.{IsDevice, AtEachMoment, after_fault}
use Rattle.tmem_fault.specs.declared.fault.Fault.{Fault}
use Rattle.tmem_fault.specs.declared.fault.Fault.TheVariants as fault
use Rattle.tmem_event.specs.declared.event.Reply.{Reply}
use Rattle.tmem_event.specs.declared.event.Reply.TheVariants as reply
use Rattle.tmem_core.specs.Program.{Program}
use Rattle.tmem_core.specs.Held.{core_state, waiting_of, is_shut_of}
use Rattle.tmem_gate.specs.Calls.{Uses}
use Rattle.tmem_journal.specs.Held as journal
use Rattle.tmem_journal.specs.Journals as journals
use Rattle.tmem_journal.specs.Contents.{Position, next_image, ContentRepresentsState}
use Rattle.tmem_journal.specs.declared.journal.Journal as owner
use Rattle.tmem_world.specs.declared.core_and_journal.CoreAndJournal as core
use Rattle.tmem_world.specs.declared.held.Held.TheVariants.{With}
use Rattle.tmem_world.specs.declared.world.World.{World}
use Rattle.tmem_world.specs.WorldModel.{WorldModel, CoreStatus, Open, Closed, cut, AllowsNextImage, AllowsCheckpoint}
use Rattle.tmem_world.specs.Represents.{BothAre, Represents, held_of, core_status}
use Rattle.tmem_world.specs.CoresAndJournals.{CheckpointsBoth, CallsDevice}
use Rattle.tmem_world.proofs.Points.{both_at, point_at, refused_at}
use Rattle.tmem_world.proofs.FlushedPoints.{at_true, at_false}

-- which reply a checkpoint's answer is
abbrev pub checkpoint_reply : Result (Unit {0}) Fault → Reply
checkpoint_reply (Ok _) = reply.Checkpointed
checkpoint_reply (Err f) = reply.Fault f

module _ {D T S : Type 0} {d t z : _} (program : Program) (w w' : World D T S d t z) (m : WorldModel) (o o' : core.CoreAndJournal D T d t) (r : Represents program w m)
    (before : held_of w ≡ With o) (after : held_of w' ≡ With o') (attempts : w'.attempts.items ≡ w.attempts.items) where
  abbrev Next : Reply → Type 0
  Next x = (m' : WorldModel) × AllowsCheckpoint m.status m x m' × Represents program w' m'

  was : BothAre program o m
  was = both_at program w m o before r

  generation : (journal.journal_position o.journal).generation ≡ m.position.generation
  generation = ap (λ (p : Position). p.generation) was.position

  module _ (state : core_state o'.core ≡ core_state o.core) (waits : waiting_of o'.core ≡ waiting_of o.core) where
    -- a core that was open, and below the last generation
    made : (x : Reply) (moved : Position → Position) (shut : Bool) (status : CoreStatus) (failed : ℕ → ℕ) → (has : journals.HasGeneration o.journal) → journals.IsJournalAt o'.journal (journal.journal_state o.journal) (journal.journal_state o.journal) (moved (journal.journal_position o.journal)) shut
        → (journal.journal_device o'.journal).failures ≡ failed (journal.journal_device o.journal).failures → (m.status ≡ Open → status ≡ core_status shut) → AllowsNextImage m x (record m { position = moved m.position; status = status; failures = failed m.failures }) → Next x
    made x moved shut status failed has at failures is allowed =
        let running : is_shut_of o.core ≡ false = o.shut ∙ has.running in
        let is_open : m.status ≡ Open = was.status ∙ ap core_status running in
        let certain : m.doubtful ≡ m.durable = was.certain running in
        let m' : WorldModel = record m { position = moved m.position; status = status; failures = failed m.failures } in
        let less : m.position.generation + 1 < 2 ^ 64 = omega (arith, has.left, generation) in
        let test : nat_eq (m.position.generation + 1) (2 ^ 64) ≡ false = grind (arith, nat_tests) in (
          m',
          subst (λ (y : CoreStatus). AllowsCheckpoint y m x m') (sym is_open) (at_false (nat_eq (m.position.generation + 1) (2 ^ 64)) _ _ test allowed),
          point_at program w w' m o o' r before after attempts state _ _ m.durable m.doubtful moved shut status failed at was.durable (was.durable ∙ ap (cut program m) (sym certain)) failures (waits ∙ was.waiting) (is is_open) (λ yes. certain) r.numbers.opened r.numbers.durable r.numbers.doubtful,
        )

    -- the point of the run after a checkpoint
    renewed : (x : Result (Unit {0}) Fault) → Uses (journal.journal_device o.journal) (journal.journal_device o'.journal) x → journals.Checkpoints o.journal x o'.journal → Next (checkpoint_reply x)
    renewed (Ok u) uses it = made reply.Checkpointed next_image false m.status (λ n. n) it.0 it.1 uses.failures (λ e. e) refl
    renewed (Err fault.Device) uses it = made (reply.Fault fault.Device) (λ p. p) true Closed after_fault it.0 it.2 uses.failures (λ e. refl) refl
    renewed (Err fault.Unknown) uses it = made (reply.Fault fault.Unknown) (λ p. p) true Closed after_fault it.0 it.2 uses.failures (λ e. refl) refl
    renewed (Err fault.Closed) uses it =
        (m, subst (λ (y : CoreStatus). AllowsCheckpoint y m (reply.Fault fault.Closed) m) (sym (was.status ∙ ap core_status (o.shut ∙ it.0))) (refl, refl), refused_at program w w' m o o' r before after attempts state it.1 waits)
    renewed (Err fault.Spent) uses it =
        let last : m.position.generation + 1 ≡ 2 ^ 64 = omega (arith, it.1, generation) in
        let test : nat_eq (m.position.generation + 1) (2 ^ 64) ≡ true = grind (arith, nat_tests) in (
          m,
          subst (λ (y : CoreStatus). AllowsCheckpoint y m (reply.Fault fault.Spent) m) (sym (was.status ∙ ap core_status (o.shut ∙ it.0))) (at_true (nat_eq (m.position.generation + 1) (2 ^ 64)) _ _ test (refl, refl)),
          refused_at program w w' m o o' r before after attempts state it.2 waits,
        )
    renewed (Err _) uses it = absurd it

  pub checkpoints : {at n : ℕ} (x : Result (Unit {0}) Fault) → CallsDevice at n o x o' → CheckpointsBoth o x o' → Next (checkpoint_reply x)
  checkpoints x did so = renewed did.state so.waits x did.uses so.journal

-- what a crash leaves meanwhile
module _ {D : Type 0} {d : _} (old new : owner.Journal D d) (device : IsDevice (journal.journal_device old)) where
  abbrev Leaves : owner.Journal D d → Type 0
  Leaves j = AtEachMoment (journal.journal_device old) (journal.journal_device j) (λ c. ∥ journal.MayBe old c ⊎ journal.MayBe j c ∥₁)

  unmoved : new ≡ old → Leaves new
  unmoved same = subst Leaves (sym same) (record { each = λ k c left. ∣ inl (old.stands.each k c (device.only_now c k left)) ∣₁ })

  pub meanwhile : (x : Result (Unit {0}) Fault) → journals.Checkpoints old x new
      → (journal.is_closed_of old ≡ false → AtEachMoment (journal.journal_device old) (journal.journal_device new) (ContentRepresentsState (journal.journal_layout old).vars (journal.journal_layout old).slots (journal.journal_state old))) → Leaves new
  meanwhile (Err fault.Closed) it during = unmoved it.1
  meanwhile (Err fault.Spent) it during = unmoved it.2
  meanwhile (Ok u) it during = record { each = λ k c left. ∣ inl (∥∥₁_map ((during it.0.running).each k c left) (λ held. (held.0, inl held.1))) ∣₁ }
  meanwhile (Err fault.Device) it during = record { each = λ k c left. ∣ inl (∥∥₁_map ((during it.0.running).each k c left) (λ held. (held.0, inl held.1))) ∣₁ }
  meanwhile (Err fault.Unknown) it during = record { each = λ k c left. ∣ inl (∥∥₁_map ((during it.0.running).each k c left) (λ held. (held.0, inl held.1))) ∣₁ }
  meanwhile (Err _) it during = absurd it
