use Rattle.std.proofs.Common.{ℕ, ◌≤◌, sym, ap, subst, ◌∙◌, rules}
use Rattle.std.proofs.lemmas.Bool.{false≢true}
use Rattle.std.proofs.lemmas.Result.{err_from_is_err_and}
use Rattle.tmem_fault.specs.declared.fault.Fault.TheVariants.{Damaged}
use Rattle.tmem_gate.specs.Calls.{failures_after}
use Rattle.tmem_gate.proofs.Laws.{OnlyReads-trans}
use Rattle.tmem_record.specs.Layout.{end_at}
use Rattle.tmem_state.specs.Versions.{version_number}
use Rattle.tmem_journal.proofs.Recovering.{no_choice, image_missing, block_later, log_missing, all_found, looking_four, looking, synced_since}
use Rattle.tmem_journal.proofs.Refused.{why_block, why_part, block_then}
use Rattle.tmem_journal.proofs.recovery.look_up.Goals as goal

pub returns-in_err-sync : goal.returns-in_err-sync
returns-in_err-sync g c =
    let returned = err_from_is_err_and c.from_residual.result c.from_residual.ensures.1 in
    let failed = c.in_err-sync.ensures in
    rw (returned.1, returned.2, failed.err) (record {
      uses = record { capacity = failed.uses.capacity; model = failed.uses.model; failures = failed.uses.failures ∙ ap (λ f. failures_after f (g.D.Disk.view c.args.disk.now).failures) failed.err };
      found = λ _. tt;
      refused = tt;
      reads_only = c.sync.ensures.reads_only;
      synced = tt;
      one = tt;
      number = tt;
      sized = tt;
    })

pub returns-in_err-block : goal.returns-in_err-block
returns-in_err-block g c =
    let returned = err_from_is_err_and c.from_residual-in_err-block.result c.from_residual-in_err-block.ensures.1 in
    let s1 = c.sync.ensures in
    let s2 = c.found_block.ensures in
    rw (returned.1, returned.2) (record {
      uses = record {
        capacity = s2.uses.capacity ∙ s1.uses.capacity;
        model = λ k. s1.uses.model (s2.uses.model k);
        failures = c.in_err-block.ensures.uses.failures ∙ ap (failures_after c.in_err-block.field-0.0) c.in_ok-sync.ensures.uses.failures;
      };
      found = λ _. tt;
      refused = why_block c.args.layout.vars c.args.layout.slots c.args.layout.fits _ _ _ (λ k. s1.reads_only.seen (s2.uses.model k)) c.in_err-block.field-0.0 c.in_err-block.ensures.refused;
      reads_only = OnlyReads-trans _ _ _ s2.uses.model s1.reads_only s2.reads_only;
      synced = tt;
      one = tt;
      number = tt;
      sized = tt;
    })

pub returns-in_err-copy : goal.returns-in_err-copy
returns-in_err-copy g c =
    let returned = err_from_is_err_and c.from_residual-in_err-copy.result c.from_residual-in_err-copy.ensures.1 in
    let vars = c.args.layout.vars in
    let slots = c.args.layout.slots in
    let s1 = c.sync.ensures in
    let s2 = c.found_block.ensures in
    let s3 = c.choose.ensures in
    rw (returned.1, returned.2) (record {
      uses = record {
        capacity = s3.uses.capacity ∙ s2.uses.capacity ∙ s1.uses.capacity;
        model = λ k. s1.uses.model (s2.uses.model (s3.uses.model k));
        failures = c.in_err-copy.ensures.uses.failures ∙ ap (failures_after c.in_err-copy.field-0.0) (c.in_ok-block.ensures.uses.failures ∙ c.in_ok-sync.ensures.uses.failures);
      };
      found = λ _. tt;
      refused = why_part vars slots c.args.layout.fits _ c.in_ok-block.block _ _ c.in_err-copy.field-0.0
          (λ k.
          let m2 = s3.uses.model k in
          block_then c.in_ok-block.block vars slots _ _ (s1.reads_only.seen (s2.uses.model m2)) (c.in_ok-block.ensures.found m2))
          (λ refused k.
          let m2 = s3.uses.model k in
          no_choice vars slots _ _ (s2.reads_only.seen m2 ∙ s1.reads_only.seen (s2.uses.model m2)) (refused k))
          c.in_err-copy.ensures.refused;
      reads_only = OnlyReads-trans _ _ _ s3.uses.model (OnlyReads-trans _ _ _ s2.uses.model s1.reads_only s2.reads_only) s3.reads_only;
      synced = tt;
      one = tt;
      number = tt;
      sized = tt;
    })

pub load-requires : goal.load-requires
load-requires g c = record {
  fits = subst (λ (n : ℕ). end_at c.args.layout.vars c.args.layout.slots ≤ n) (sym (c.choose.ensures.uses.capacity ∙ c.found_block.ensures.uses.capacity ∙ c.sync.ensures.uses.capacity)) c.requires.fits;
  one = c.in_ok-copy.ensures.one;
  room = c.requires.image;
}

pub returns-in_err-version : goal.returns-in_err-version
returns-in_err-version g c =
    let returned = err_from_is_err_and c.from_residual-in_err-version.result c.from_residual-in_err-version.ensures.1 in
    let vars = c.args.layout.vars in
    let slots = c.args.layout.slots in
    let s1 = c.sync.ensures in
    let s2 = c.found_block.ensures in
    let s3 = c.choose.ensures in
    let s4 = c.load.ensures in
    rw (returned.1, returned.2) (record {
      uses = record {
        capacity = s4.uses.capacity ∙ s3.uses.capacity ∙ s2.uses.capacity ∙ s1.uses.capacity;
        model = λ k. s1.uses.model (s2.uses.model (s3.uses.model (s4.uses.model k)));
        failures = c.in_err-version.ensures.uses.failures ∙ ap (failures_after c.in_err-version.field-0.0) (c.in_ok-copy.ensures.uses.failures ∙ c.in_ok-block.ensures.uses.failures ∙ c.in_ok-sync.ensures.uses.failures);
      };
      found = λ _. tt;
      refused = why_part vars slots c.args.layout.fits _ c.in_ok-block.block _ _ c.in_err-version.field-0.0
          (λ k.
          let m2 = s3.uses.model (s4.uses.model k) in
          block_then c.in_ok-block.block vars slots _ _ (s1.reads_only.seen (s2.uses.model m2)) (c.in_ok-block.ensures.found m2))
          (λ refused k.
          let m3 = s4.uses.model k in
          let m2 = s3.uses.model m3 in
          image_missing vars slots c.in_ok-copy.copy _ _ _ _ (s1.reads_only.seen (s2.uses.model m2)) (s2.reads_only.seen m2) (s3.reads_only.seen m3) (c.in_ok-copy.ensures.found m3) (refused k))
          c.in_err-version.ensures.refused;
      reads_only = looking_four _ _ _ _ _ s2.uses.model s3.uses.model s4.uses.model s1.reads_only s2.reads_only s3.reads_only s4.reads_only;
      synced = tt;
      one = tt;
      number = tt;
      sized = tt;
    })

pub returns-then-not-may_follow : goal.returns-then-not-may_follow
returns-then-not-may_follow g c =
    let vars = c.args.layout.vars in
    let slots = c.args.layout.slots in
    let block = c.in_ok-block.block in
    let image = c.in_ok-version.field-0 in
    let s1 = c.sync.ensures in
    let s2 = c.found_block.ensures in
    let s3 = c.choose.ensures in
    let s4 = c.load.ensures in
    record {
      uses = record {
        capacity = s4.uses.capacity ∙ s3.uses.capacity ∙ s2.uses.capacity ∙ s1.uses.capacity;
        model = λ k. s1.uses.model (s2.uses.model (s3.uses.model (s4.uses.model k)));
        failures = c.in_ok-version.ensures.uses.failures ∙ c.in_ok-copy.ensures.uses.failures ∙ c.in_ok-block.ensures.uses.failures ∙ c.in_ok-sync.ensures.uses.failures;
      };
      found = λ _. tt;
      refused = why_part vars slots c.args.layout.fits _ block _ (version_number block ≤ version_number image.version → ⊥) Damaged
          (λ k.
          let m2 = s3.uses.model (s4.uses.model k) in
          block_then block vars slots _ _ (s1.reads_only.seen (s2.uses.model m2)) (c.in_ok-block.ensures.found m2))
          (λ later k.
          let m3 = s4.uses.model k in
          let m2 = s3.uses.model m3 in
          block_later vars slots c.in_ok-copy.copy _ _ _ _ (s1.reads_only.seen (s2.uses.model m2)) (s2.reads_only.seen m2) (s3.reads_only.seen m3) image.version image.generation image.state
          block (c.in_ok-block.ensures.found m2) later (c.in_ok-copy.ensures.found m3) (c.in_ok-version.ensures.found k))
          (λ le. false≢true (sym c.if-not-may_follow.true ∙ c.may_follow.ensures.1 le));
      reads_only = looking_four _ _ _ _ _ s2.uses.model s3.uses.model s4.uses.model s1.reads_only s2.reads_only s3.reads_only s4.reads_only;
      synced = tt;
      one = tt;
      number = tt;
      sized = tt;
    }

pub scan-requires : goal.scan-requires
scan-requires g c = record {
  fits = subst (λ (n : ℕ). end_at c.args.layout.vars c.args.layout.slots ≤ n) (sym (c.load.ensures.uses.capacity ∙ c.choose.ensures.uses.capacity ∙ c.found_block.ensures.uses.capacity ∙ c.sync.ensures.uses.capacity)) c.requires.fits;
  sized = c.in_ok-version.ensures.fits.values;
  room = c.requires.log;
}

pub returns-in_err-log : goal.returns-in_err-log
returns-in_err-log g c =
    let returned = err_from_is_err_and c.from_residual-in_err-log.result c.from_residual-in_err-log.ensures.1 in
    let vars = c.args.layout.vars in
    let slots = c.args.layout.slots in
    let image = c.in_ok-version.field-0 in
    let s1 = c.sync.ensures in
    let s2 = c.found_block.ensures in
    let s3 = c.choose.ensures in
    let s4 = c.load.ensures in
    let s5 = c.scan.ensures in
    rw (returned.1, returned.2) (record {
      uses = record {
        capacity = s5.uses.capacity ∙ s4.uses.capacity ∙ s3.uses.capacity ∙ s2.uses.capacity ∙ s1.uses.capacity;
        model = λ k. s1.uses.model (s2.uses.model (s3.uses.model (s4.uses.model (s5.uses.model k))));
        failures = c.in_err-log.ensures.uses.failures ∙ ap (failures_after c.in_err-log.field-0.0) (c.in_ok-version.ensures.uses.failures ∙ c.in_ok-copy.ensures.uses.failures ∙ c.in_ok-block.ensures.uses.failures ∙ c.in_ok-sync.ensures.uses.failures);
      };
      found = λ _. tt;
      refused = why_part vars slots c.args.layout.fits _ c.in_ok-block.block _ _ c.in_err-log.field-0.0
          (λ k.
          let m2 = s3.uses.model (s4.uses.model (s5.uses.model k)) in
          block_then c.in_ok-block.block vars slots _ _ (s1.reads_only.seen (s2.uses.model m2)) (c.in_ok-block.ensures.found m2))
          (λ refused k.
          let m4 = s5.uses.model k in
          let m3 = s4.uses.model m4 in
          let m2 = s3.uses.model m3 in
          log_missing vars slots c.in_ok-copy.copy _ _ _ _ (s1.reads_only.seen (s2.uses.model m2)) (s2.reads_only.seen m2) (s3.reads_only.seen m3) image.version image.generation image.state _ (s4.reads_only.seen m4)
          (c.in_ok-copy.ensures.found m3) (c.in_ok-version.ensures.found m4) (refused k))
          c.in_err-log.ensures.refused;
      reads_only = looking _ _ _ _ _ _ s2.uses.model s3.uses.model s4.uses.model s5.uses.model s1.reads_only s2.reads_only s3.reads_only s4.reads_only s5.reads_only;
      synced = tt;
      one = tt;
      number = tt;
      sized = tt;
    })

pub returns-clause-uses : goal.returns-clause-uses
returns-clause-uses g c =
    let s1 = c.sync.ensures in
    let s2 = c.found_block.ensures in
    let s3 = c.choose.ensures in
    let s4 = c.load.ensures in
    let s5 = c.scan.ensures in
    record {
      capacity = s5.uses.capacity ∙ s4.uses.capacity ∙ s3.uses.capacity ∙ s2.uses.capacity ∙ s1.uses.capacity;
      model = λ k. s1.uses.model (s2.uses.model (s3.uses.model (s4.uses.model (s5.uses.model k))));
      failures = c.in_ok-log.ensures.uses.failures ∙ c.in_ok-version.ensures.uses.failures ∙ c.in_ok-copy.ensures.uses.failures ∙ c.in_ok-block.ensures.uses.failures ∙ c.in_ok-sync.ensures.uses.failures;
    }

pub returns-clause-found : goal.returns-clause-found
returns-clause-found g c = λ k.
    let vars = c.args.layout.vars in
    let slots = c.args.layout.slots in
    let image = c.in_ok-version.field-0 in
    let log = c.in_ok-log.ensures in
    let m4 = c.scan.ensures.uses.model k in
    let m3 = c.load.ensures.uses.model m4 in
    let m2 = c.choose.ensures.uses.model m3 in
    let m1 = c.found_block.ensures.uses.model m2 in
    ∣ all_found vars slots c.in_ok-copy.copy _ _ _ _ (c.sync.ensures.reads_only.seen m1) (c.found_block.ensures.reads_only.seen m2) (c.choose.ensures.reads_only.seen m3) image.version image.generation image.state _ (c.load.ensures.reads_only.seen m4)
    c.in_ok-block.block _ c.in_ok-log.log (c.may_follow.ensures.0 c.if-not-may_follow.false) c.in_ok-copy.ensures.one log.generation (c.in_ok-block.ensures.found m2) (c.in_ok-copy.ensures.found m3) (c.in_ok-version.ensures.found m4) (log.found k) ∣₁

pub returns-clause-refused : goal.returns-clause-refused
returns-clause-refused g c = tt

pub returns-clause-reads_only : goal.returns-clause-reads_only
returns-clause-reads_only g c =
    looking _ _ _ _ _ _ c.found_block.ensures.uses.model c.choose.ensures.uses.model c.load.ensures.uses.model c.scan.ensures.uses.model
    c.sync.ensures.reads_only c.found_block.ensures.reads_only c.choose.ensures.reads_only c.load.ensures.reads_only c.scan.ensures.reads_only

-- each call behind the sync only reads
pub returns-clause-synced : goal.returns-clause-synced
returns-clause-synced g c =
    let now = g.D.Disk.view c.scan.new.disk in
    let s2 = c.found_block.ensures in
    let s3 = c.choose.ensures in
    let s4 = c.load.ensures in
    let s5 = c.scan.ensures in
    synced_since _ _ _ _ now s2.uses.model s3.uses.model s4.uses.model s5.uses.model s2.reads_only s3.reads_only s4.reads_only s5.reads_only (search rules)

pub returns-clause-one : goal.returns-clause-one
returns-clause-one g c = c.in_ok-copy.ensures.one

pub returns-clause-number : goal.returns-clause-number
returns-clause-number g c = rw c.in_ok-log.ensures.generation c.in_ok-version.ensures.number

pub returns-clause-sized : goal.returns-clause-sized
returns-clause-sized g c = (c.in_ok-log.ensures.sized, c.in_ok-log.ensures.few)
