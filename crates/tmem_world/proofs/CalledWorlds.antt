-- What becomes of a world whose journal called the device.
use Rattle.std.proofs.Common.{◌≡◌, ⊎_elim, ℕ, sym, ◌∙◌, ap, subst, arith}
use Rattle.std.specs.Prelude.{Ok}
use Rattle.tmem_effect.proofs.Laws.{count-fold}
use Rattle.tmem_event.specs.declared.event.Reply.{Reply}
use Rattle.tmem_core.specs.Held.{core_table, durable_of}
use Rattle.tmem_journal.specs.Held as journal
use Rattle.tmem_world.specs.declared.core_and_journal.CoreAndJournal.{CoreAndJournal}
use Rattle.tmem_world.specs.declared.held.Held.{Held}
use Rattle.tmem_world.specs.declared.held.Held.TheVariants.{With}
use Rattle.tmem_world.specs.declared.world.World.{World}
use Rattle.tmem_world.specs.Parts.{held_disk, table_in}
use Rattle.tmem_world.specs.Replies.{failures_by}
use Rattle.tmem_world.specs.Represents.{KeepsSetting, held_of, world_disk, world_view, durable_number, durable_in}
use Rattle.tmem_world.specs.CoresAndJournals.{FlushesBoth}

module _ {D T S : Type 0} {d t s : _} (w : World D T S d t s) (o : CoreAndJournal D T d t) (before : held_of w ≡ With o) where
  pub called_keeps : (w' : World D T S d t s) (o' : CoreAndJournal D T d t) → held_of w' ≡ With o' → w'.layout ≡ w.layout → w'.steps ≡ w.steps → core_table o'.core ≡ core_table o.core → ((journal.journal_device o'.journal).keeps_model → (journal.journal_device o.journal).keeps_model) → KeepsSetting w w'
  called_keeps w' o' after layout steps table model = record {
    numbers = layout;
    steps = steps;
    table = ap (λ (h : Held D T d t). table_in h) after ∙ table ∙ sym (ap (λ (h : Held D T d t). table_in h) before);
    model = λ keeps. subst (λ (h : Held D T d t). (d.view (held_disk h)).keeps_model) (sym before) (model (subst (λ (h : Held D T d t). (d.view (held_disk h)).keeps_model) after keeps));
  }

  pub called_fails : (n : ℕ) (r : Reply) → n ≡ failures_by r (journal.journal_device o.journal).failures → n ≡ failures_by r (world_view w).failures
  called_fails n r is = is ∙ sym (ap (λ (h : Held D T d t). failures_by r (d.view (held_disk h)).failures) before)

  -- a flush that finds nothing to write makes no call
  pub flushed_still : (o' : CoreAndJournal D T d t) (n : ℕ) → FlushesBoth o (Ok n) o' → n ≡ durable_number w → journal.disk_of o'.journal ≡ world_disk w
  flushed_still o' n it is =
      let known : n ≡ durable_of o.core = is ∙ ap (λ (h : Held D T d t). durable_in h) before in
      let device = sym (ap (λ (h : Held D T d t). held_disk h) before) in
      ⊎_elim (λ closed. let wrong = closed.answered in cc)
      (λ more. ⊎_elim (λ none. ap (λ (x : CoreAndJournal D T d t). journal.disk_of x.journal) none.same ∙ device)
      (λ some. absurd (omega (arith, some.some, some.journal.1, known, count-fold (journal.journal_state o.journal) some.oldest, o.known))) more) it
