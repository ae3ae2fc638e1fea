use Rattle.std.proofs.Common.{◌≡◌, ◌⊎◌, ℕ, [], ◌++◌, refl, sym, ap, subst, inl, inr, ◌∙◌}
use Rattle.std.specs.Prelude.{OnOk, IfErr}
use Rattle.std.specs.Io.KnownBytes.{Appends}
use Rattle.tmem_record.specs.declared.layout.Layout.{Layout}
use Rattle.tmem_event.specs.declared.event.Reply.TheVariants as reply
use Rattle.tmem_script.specs.Lines.{line_of}
use Rattle.tmem_script.specs.declared.failure.ProgramFailure.{ProgramFailure}
use Rattle.tmem_world.specs.WorldModel.{opening}
use Rattle.tmem_world.specs.Represents.{Represents, world_disk, world_view}
use Rattle.tmem_core.specs.Program.{IsProgramOf}
use Rattle.tmem_world.specs.Chain.{state_at}
use Rattle.tmem_world.proofs.Laws.{KeepsSetting-refl, WritesInStore-refl, count_at}
use Rattle.tmem_run.specs.Builtin.{builtin_program}
use Rattle.tmem_run.specs.Printed.{line}
use Rattle.tmem_run.specs.Stored.{PlaysOver, StopsOver, RefusesOver}
use Rattle.tmem_opening.proofs.Laws.{refused_for_fewer}
use Rattle.tmem_run.proofs.Laws.{ok_both, err_both}
use Rattle.tmem_run.proofs.Entries.{PlaysOn-of, means_builtin, setting_builtin}
use Rattle.tmem_run.proofs.Stores.{go_on-nil, plays_store}
use Rattle.tmem_run.proofs.Laws.{Appends-then}
use Rattle.tmem_run.proofs.playing.play_on.Goals as goal

pub returns-clause-played : goal.returns-clause-played
returns-clause-played g c =
    let w = c.in-Ok.world in
    let new = c.play_entries-outcome.new.world in
    let vars = c.args.layout.vars in
    let slots = c.args.layout.slots in
    let program = builtin_program vars in
    let so = c.in-Ok.ensures in
    let did = c.play_entries-outcome.ensures in
    let fits = so.fits in
    let over = ap (λ (l : Layout). l.vars) did.kept.numbers ∙ fits.0 in
    let log = ap (λ (l : Layout). l.slots) did.kept.numbers ∙ fits.1 in
    let means = means_builtin w vars slots c.args.table c.args.steps fits.0 fits.1 so.table so.steps c.requires.meant in
    let set = setting_builtin w vars slots c.args.table c.args.steps fits.0 fits.1 so.table so.steps c.requires.arities in
    let found = so.found in
    let at = subst (λ (n : ℕ). Represents program w (opening found.0 found.1 n)) c.requires.failures (found.2 program means) in
    subst (λ (x : g.row.D.Denot). OnOk c.play_entries-outcome.result (PlaysOver g.D.Disk.view vars slots c.args.entries.items c.args.disk x (g.W.Write.contents c.args.out.now) (g.W.Write.contents c.play_entries-outcome.new.out))) (sym c.into_disk-2.ensures)
    (ok_both c.play_entries-outcome.result did.played did.chain
    (λ played chain premise. (
      so.uses.model (did.kept.model premise),
      PlaysOn-of (g.D.Disk.view c.args.disk) w new vars slots over log means set c.count-count.result found.1 found.0 _ _ _ c.args.entries.items (found.3 (did.kept.model premise)).was at (c.count-count.ensures program (opening found.0 found.1 0) at) c.in-Ok-print_line.ensures.line played premise
          (λ h store.
          let opened = so.chain program h c.requires.meant store (did.kept.model premise) in
          let n = opened.found.0 in
          let it = plays_store w new vars slots (g.D.Disk.view c.args.disk) over log means set did.kept so.mends did.elsewhere h opened c.args.entries.items _ chain premise in
          let counted = c.count-count.ensures program (opening (state_at program vars h n) opened.found.1 (g.D.Disk.view c.args.disk).failures) opened.found.3.point ∙ count_at program vars h n opened.found.2 in (
            line (line_of (reply.Opened n)) ++ it.0,
            it.1,
            Appends-then _ _ _ (line (line_of (reply.Opened n))) it.0 (subst (λ (k : ℕ). Appends (g.W.Write.contents c.args.out.now) (g.W.Write.contents c.print_line.new.out) (line (line_of (reply.Opened k)))) counted c.in-Ok-print_line.ensures.line) it.2,
          )),
    )))

pub returns-clause-failed : goal.returns-clause-failed
returns-clause-failed g c =
    let w = c.in-Ok.world in
    let vars = c.args.layout.vars in
    let slots = c.args.layout.slots in
    let so = c.in-Ok.ensures in
    let did = c.play_entries-outcome.ensures in
    let fits = so.fits in
    let means = means_builtin w vars slots c.args.table c.args.steps fits.0 fits.1 so.table so.steps c.requires.meant in
    let set = setting_builtin w vars slots c.args.table c.args.steps fits.0 fits.1 so.table so.steps c.requires.arities in
    subst (λ (x : g.row.D.Denot). IfErr c.play_entries-outcome.result (λ (f : ProgramFailure). StopsOver g.D.Disk.view vars slots c.args.entries.items c.args.disk x f ⊎ RefusesOver g.D.Disk.view vars slots c.args.disk x f)) (sym c.into_disk-2.ensures)
    (err_both c.play_entries-outcome.result did.failed did.stopped
    (λ failure output stopped. inl (
      output,
      λ h store premise.
          let opened = so.chain (builtin_program vars) h c.requires.meant store (did.kept.model premise) in
          let it = plays_store w c.play_entries-outcome.new.world vars slots (g.D.Disk.view c.args.disk) (ap (λ (l : Layout). l.vars) did.kept.numbers ∙ fits.0) (ap (λ (l : Layout). l.slots) did.kept.numbers ∙ fits.1) means set did.kept so.mends did.elsewhere h opened stopped.0 _ stopped.2 premise in
          (stopped.0, line (line_of (reply.Opened opened.found.0)) ++ it.0, stopped.1, it.1),
    )))

pub returns-in-Err-print_line-clause-failed : goal.returns-in-Err-print_line-clause-failed
returns-in-Err-print_line-clause-failed g c =
    let w = c.in-Ok.world in
    let vars = c.args.layout.vars in
    let slots = c.args.layout.slots in
    let so = c.in-Ok.ensures in
    let fits = so.fits in
    let device = g.met.D.Disk.is_device (world_disk w) in
    let means = means_builtin w vars slots c.args.table c.args.steps fits.0 fits.1 so.table so.steps c.requires.meant in
    let set = setting_builtin w vars slots c.args.table c.args.steps fits.0 fits.1 so.table so.steps c.requires.arities in
    subst (λ (x : g.row.D.Denot). StopsOver g.D.Disk.view vars slots c.args.entries.items c.args.disk x c.in-Err-print_line.failure ⊎ RefusesOver g.D.Disk.view vars slots c.args.disk x c.in-Err-print_line.failure) (sym c.into_disk.ensures)
    (inl (
      c.in-Err-print_line.ensures.failed,
      λ h store premise.
          let opened = so.chain (builtin_program vars) h c.requires.meant store premise in
          let it = plays_store w w vars slots (g.D.Disk.view c.args.disk) fits.0 fits.1 means set (KeepsSetting-refl w) so.mends (WritesInStore-refl w.layout (world_view w) device) h opened [] (λ text. Unit {0}) (λ program known f m has keeps. ([], go_on-nil program w device f m has, tt)) premise in
          ([], line (line_of (reply.Opened opened.found.0)) ++ it.0, (c.args.entries.items, refl), it.1),
    ))

pub returns-in-Err-clause-failed : goal.returns-in-Err-clause-failed
returns-in-Err-clause-failed g c =
    let vars = c.args.layout.vars in
    inr (
      c.in-Err.fault,
      refl,
      refused_for_fewer (IsProgramOf g.T.Invariants c.args.table) (λ p. p ≡ builtin_program vars) vars c.args.layout.slots (g.D.Disk.view c.args.disk) c.in-Err.fault (g.D.Disk.view c.in-Err.disk)
          (λ p is. subst (IsProgramOf g.T.Invariants c.args.table) (sym is) c.requires.meant.invariants) c.in-Err.ensures.refused,
      λ h store premise.
          let opened = c.in-Err.ensures.chain (builtin_program vars) h c.requires.meant store premise in
          record { store = opened.found.2; any_moment = opened.any_moment },
    )
