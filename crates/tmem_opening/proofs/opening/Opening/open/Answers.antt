use Rattle.std.proofs.Common.{◌≡◌, ◌⊎◌, inl, ℕ, length, Some, refl, sym, ◌∙◌, ap, subst}
use Rattle.tmem_disk.specs.Disk.{LeavesOnly, SameDevice}
use Rattle.tmem_fault.specs.declared.fault.Fault.TheVariants as fault
use Rattle.tmem_effect.specs.State.{State}
use Rattle.tmem_invariants.specs.Meanings.{IsSound}
use Rattle.tmem_tree.specs.Signatures.{AreWithin}
use Rattle.tmem_core.specs.Opening.{opening_fault}
use Rattle.tmem_core.specs.Program.{IsProgramOf}
use Rattle.tmem_journal.specs.Contents.{ContentRepresents}
use Rattle.tmem_journal.specs.Held as journal
use Rattle.tmem_opening.specs.Opening.{FindsState, OpeningRefused}
use Rattle.tmem_opening.proofs.Laws.{given_up}
use Rattle.tmem_opening.proofs.Refusals.{mending, same, journal_refused, core_refused, only_memory}
use Rattle.tmem_opening.proofs.opening.Opening.open.Goals as goal

pub returns-in-Err-clause-refused : goal.returns-in-Err-clause-refused
returns-in-Err-clause-refused g c =
    let so = c.in-Err.ensures in
    let old = g.D.Disk.view c.args.disk in
    let new = g.D.Disk.view c.in-Err.disk in
    let mends = mending c.args.vars c.args.slots old new (g.met.D.Disk.is_device c.in-Err.disk) so.recovers so.mends in
    journal_refused _ c.args.vars c.args.slots old new c.in-Err.fault mends (g.met.D.Disk.is_device c.in-Err.disk) so.uses so.refused so.refused_reads_only so.spent_mends
    (λ is. subst (λ x. SameDevice old (g.D.Disk.view x)) (sym (so.memory is)) (same old))

pub returns-in-Ok-made-clause-opened : goal.returns-in-Ok-made-clause-opened
returns-in-Ok-made-clause-opened g c =
    let j = c.in-Ok.journal in
    let opened = c.in-Ok.ensures in
    let made = c.in-Ok-new.ensures in
    let old = g.D.Disk.view c.args.disk in
    let new = journal.journal_device j in
    let at = journal.journal_position j in
    let copied = ap (λ v. v.state) made.view in
    let same = copied ∙ c.state.ensures in
    record {
      found = λ k. subst (λ (s : State). FindsState c.args.vars c.args.slots old new at s) (sym same) (record { was = opened.found k; stands = opened.stands k });
      sound = λ m stated. subst (λ (s : State). IsSound m (g.T.Invariants.names c.args.table) s.names s.values) (sym copied) (made.sound m stated);
      leaves = subst (λ (s : State). LeavesOnly new (ContentRepresents c.args.vars c.args.slots at s)) (sym same) (rw (opened.fits.0, opened.fits.1) at (j.sure opened.fresh.0));
      values = ap (λ (s : State). length s.values) same ∙ j.sized ∙ opened.fits.0;
      fits = opened.fits;
      holds = ap (λ v. v.table) made.view;
      uses = opened.uses;
      mends = mending c.args.vars c.args.slots old new (g.met.D.Disk.is_device (journal.disk_of j)) opened.recovers opened.mends;
    }

pub returns-in-Err-made-clause-refused : goal.returns-in-Err-made-clause-refused
returns-in-Err-made-clause-refused g c =
    let j = c.in-Ok.journal in
    let opened = c.in-Ok.ensures in
    let old = g.D.Disk.view c.args.disk in
    let mends = mending c.args.vars c.args.slots old (journal.journal_device j) (g.met.D.Disk.is_device (journal.disk_of j)) opened.recovers opened.mends in
    subst (λ x. OpeningRefused (IsProgramOf g.T.Invariants c.args.table) c.args.vars c.args.slots old fault.Memory (g.D.Disk.view x)) (sym c.into_disk-in-Err-made.ensures)
    (given_up g.T.Invariants c.args.table c.args.vars c.args.slots old (journal.journal_device j) opened.uses opened.fits.2 mends (journal.journal_position j) (journal.journal_state j) (λ k. record { was = opened.found k; stands = opened.stands k })
    (λ m stated. subst (λ (x : State). IsSound m (g.T.Invariants.names c.args.table) x.names x.values) c.state.ensures (c.in-Ok-new.ensures.sound m stated)))

pub returns-in-Err-new-clause-refused : goal.returns-in-Err-new-clause-refused
returns-in-Err-new-clause-refused g c =
    let theirs = IsProgramOf g.T.Invariants c.args.table in
    let j = c.in-Ok.journal in
    let opened = c.in-Ok.ensures in
    let so = c.in-Err-new.ensures in
    let old = g.D.Disk.view c.args.disk in
    let mends = mending c.args.vars c.args.slots old (journal.journal_device j) (g.met.D.Disk.is_device (journal.disk_of j)) opened.recovers opened.mends in
    subst (λ x. OpeningRefused theirs c.args.vars c.args.slots old c.in-Err-new.fault (g.D.Disk.view x)) (sym c.into_disk.ensures)
    (core_refused theirs c.args.vars c.args.slots old (journal.journal_device j) c.in-Err-new.fault mends opened.uses opened.fits.2 so.refused (journal.journal_position j) (journal.journal_state j) (λ k. record { was = opened.found k; stands = opened.stands k })
    (λ no p are. (
      subst (λ (x : State). opening_fault p x ≡ Some c.in-Err-new.fault) c.state.ensures (so.fault p are no),
      subst (λ (x : State). ¬ IsSound p.tests p.names x.names x.values) c.state.ensures
          (subst (λ ns. ¬ IsSound p.tests ns c.state.result.now.names c.state.result.now.values) (sym are.names) (so.unsound p.tests are.tests no)),
    ))
    (λ is p are.
    subst (λ (x : State). IsSound p.tests p.names x.names x.values) c.state.ensures
    (subst (λ ns. IsSound p.tests ns c.state.result.now.names c.state.result.now.values) (sym are.names) (so.memory p.tests are.tests is))))

pub returns-in-Err-new-clause-recovers : goal.returns-in-Err-new-clause-recovers
returns-in-Err-new-clause-recovers g c = λ p a b are sound_a sound_b fits left keeps.
    let so = c.in-Err-new.ensures in
    let s = journal.journal_state c.in-Ok.journal in
    let either = c.in-Ok.ensures.either a b fits left (subst (λ x. (g.D.Disk.view x).keeps_model) c.into_disk.ensures keeps) in
    only_memory p s a b c.in-Err-new.fault so.refused
    (λ no. subst (λ (x : State). ¬ IsSound p.tests p.names x.names x.values) c.state.ensures
    (subst (λ ns. ¬ IsSound p.tests ns c.state.result.now.names c.state.result.now.values) (sym are.names) (so.unsound p.tests are.tests no)))
    either sound_a sound_b

pub invariant_of-result : goal.invariant_of-result
invariant_of-result g c =
    let j = c.in-Ok.journal in
    let opened = c.in-Ok.ensures in
    let view = c.in-Ok-new.ensures.view in
    let made = c.in-Ok-made.ensures in
    let copied = ap (λ v. v.state) view in
    let table = ap (λ v. v.table) view in
    let same = copied ∙ c.state.ensures in
    let values = ap (λ (s : State). length s.values) same ∙ j.sized ∙ opened.fits.0 ∙ sym c.requires in
    record {
      found = same;
      waits = ap (λ v. v.waiting) view;
      known = ap (λ v. v.durable) view ∙ sym (ap (λ (s : State). s.count) copied);
      running = ap (λ v. v.is_shut) view;
      «open» = opened.fresh.0;
      sure = opened.fresh.1;
      named = made.named ∙ sym (ap (λ t. g.T.Invariants.names t) table);
      meant = λ m stated. made.meant m (subst (λ t. g.T.Invariants.is_stated t m) table stated);
      within = subst (λ (n : ℕ). AreWithin n c.in-Ok-made.signatures.items) (sym values) made.within;
    }

pub new-requires : goal.new-requires
new-requires g c =
    let sized = ap (λ (s : State). length s.values) c.state.ensures ∙ c.in-Ok.journal.sized ∙ c.in-Ok.ensures.fits.0 in
    record { vars = c.requires ∙ sym sized }

pub returns-in-Err-clause-recovers : goal.returns-in-Err-clause-recovers
returns-in-Err-clause-recovers g c = λ p a b are sound_a sound_b fits left keeps. c.in-Err.ensures.either a b fits left keeps

pub returns-in-Err-made-clause-recovers : goal.returns-in-Err-made-clause-recovers
returns-in-Err-made-clause-recovers g c = λ p a b are sound_a sound_b fits left keeps. inl refl

pub returns-in-Ok-made-clause-recovers : goal.returns-in-Ok-made-clause-recovers
returns-in-Ok-made-clause-recovers g c = λ p a b are sound_a sound_b fits left keeps.
    let same = ap (λ v. v.state) c.in-Ok-new.ensures.view ∙ c.state.ensures in
    subst (λ (s : State). ∥ (s ≡ a) ⊎ (s ≡ b) ∥₁) (sym same) (c.in-Ok.ensures.either a b fits left keeps)

pub returns-in-Err-clause-untouched : goal.returns-in-Err-clause-untouched
returns-in-Err-clause-untouched g c = c.in-Err.ensures.untouched

pub returns-in-Err-new-clause-untouched : goal.returns-in-Err-new-clause-untouched
returns-in-Err-new-clause-untouched g c = λ no. absurd (no c.in-Ok.ensures.fits.2)

pub returns-in-Err-made-clause-untouched : goal.returns-in-Err-made-clause-untouched
returns-in-Err-made-clause-untouched g c = λ no. absurd (no c.in-Ok.ensures.fits.2)

pub returns-in-Err-new-clause-back : goal.returns-in-Err-new-clause-back
returns-in-Err-new-clause-back g c = c.in-Err-new.ensures.back

pub returns-in-Err-made-clause-back : goal.returns-in-Err-made-clause-back
returns-in-Err-made-clause-back g c = c.into_table.ensures ∙ ap (λ v. v.table) c.in-Ok-new.ensures.view
