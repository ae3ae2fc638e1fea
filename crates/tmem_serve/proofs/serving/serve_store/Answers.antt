use Rattle.std.proofs.Common.{ℕ, List, None, option_map, inr, subst, refl, sym, ap, ◌≡◌, ◌∙◌}
use Rattle.tmem_invariants.specs.Meanings.{IsSound}
use Rattle.tmem_journal.specs.Held.{disk_of}
use Rattle.tmem_opening.specs.Held.{opening_position}
use Rattle.tmem_front.specs.Held.{front_found, opening_of, spine_of, front_steps}
use Rattle.tmem_desk.specs.Asking.{store}
use Rattle.tmem_serve.specs.Stores.{IsOpenedAs, first_unregistered}
use Rattle.tmem_serve.proofs.serving.serve_store.Goals as goal

pub returns-in-Some-clause-ended : goal.returns-in-Some-clause-ended
returns-in-Some-clause-ended g c =
    let o = c.in-Ok.opened in
    let so = c.in-Ok.ensures.opened in
    let it = store (spine_of o).start (front_found o) g.program (g.S.StoredSteps.arities (front_steps o)) c.args.served.always.now in
    let state = front_found o in
    let sound = so.sound g.program.tests c.requires.1.1.1.1.1.1.1.1.1.0 in
    let opens : IsOpenedAs g.D.Disk.view g.program (g.S.StoredSteps.arities c.args.steps) c.args.served.always.now c.args.served.vars c.args.served.slots c.args.disk it = record {
      opened = disk_of (opening_of o).journal;
      finds = record {
        position = opening_position (opening_of o);
        found = so.found;
        leaves = so.leaves;
        sound = subst (λ (names : List (List ℕ)). IsSound g.program.tests names state.names state.values) c.requires.1.1.1.1.1.1.1.0 sound;
        model = so.uses.model;
      };
      start = o.starts;
      program_is = refl;
      arities_are = ap (λ steps. g.S.StoredSteps.arities steps) c.in-Ok.ensures.steps;
      always_is = refl;
    } in
    (it, opens, sym c.unregistered.ensures ∙ ap (option_map (λ name. name.now)) c.in-Some.is, refl, refl)

pub returns-in-Ok-serve_opened-clause-served : goal.returns-in-Ok-serve_opened-clause-served
returns-in-Ok-serve_opened-clause-served g c =
    let o = c.in-Ok.opened in
    let so = c.in-Ok.ensures.opened in
    let it = store (spine_of o).start (front_found o) g.program (g.S.StoredSteps.arities (front_steps o)) c.args.served.always.now in
    let state = front_found o in
    let sound = so.sound g.program.tests c.requires.1.1.1.1.1.1.1.1.1.0 in
    let opens : IsOpenedAs g.D.Disk.view g.program (g.S.StoredSteps.arities c.args.steps) c.args.served.always.now c.args.served.vars c.args.served.slots c.args.disk it = record {
      opened = disk_of (opening_of o).journal;
      finds = record {
        position = opening_position (opening_of o);
        found = so.found;
        leaves = so.leaves;
        sound = subst (λ (names : List (List ℕ)). IsSound g.program.tests names state.names state.values) c.requires.1.1.1.1.1.1.1.0 sound;
        model = so.uses.model;
      };
      start = o.starts;
      program_is = refl;
      arities_are = ap (λ steps. g.S.StoredSteps.arities steps) c.in-Ok.ensures.steps;
      always_is = refl;
    } in
    let kept : first_unregistered it.opening.names c.args.served.always.now ≡ None = sym c.unregistered.ensures ∙ ap (option_map (λ name. name.now)) c.in-None.is in
    record { it = it; opened = opens; kept = kept; served = c.in-Ok-serve_opened.ensures.served }

pub returns-in-Err-serve_opened-clause-ended : goal.returns-in-Err-serve_opened-clause-ended
returns-in-Err-serve_opened-clause-ended g c =
    let o = c.in-Ok.opened in
    let so = c.in-Ok.ensures.opened in
    let it = store (spine_of o).start (front_found o) g.program (g.S.StoredSteps.arities (front_steps o)) c.args.served.always.now in
    let state = front_found o in
    let sound = so.sound g.program.tests c.requires.1.1.1.1.1.1.1.1.1.0 in
    let opens : IsOpenedAs g.D.Disk.view g.program (g.S.StoredSteps.arities c.args.steps) c.args.served.always.now c.args.served.vars c.args.served.slots c.args.disk it = record {
      opened = disk_of (opening_of o).journal;
      finds = record {
        position = opening_position (opening_of o);
        found = so.found;
        leaves = so.leaves;
        sound = subst (λ (names : List (List ℕ)). IsSound g.program.tests names state.names state.values) c.requires.1.1.1.1.1.1.1.0 sound;
        model = so.uses.model;
      };
      start = o.starts;
      program_is = refl;
      arities_are = ap (λ steps. g.S.StoredSteps.arities steps) c.in-Ok.ensures.steps;
      always_is = refl;
    } in
    let kept : first_unregistered it.opening.names c.args.served.always.now ≡ None = sym c.unregistered.ensures ∙ ap (option_map (λ name. name.now)) c.in-None.is in
    inr (it, opens, kept, c.in-Err-serve_opened.ensures.stopped)

pub returns-in-Ok-serve_opened-clause-whole : goal.returns-in-Ok-serve_opened-clause-whole
returns-in-Ok-serve_opened-clause-whole g c = c.in-Ok-serve_opened.ensures.whole
