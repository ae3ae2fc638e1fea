use Rattle.tmem_explain.specs.Limits.{IsLimitFlaw, MayHaveSlots, MayHaveVars, TellsSlots, TellsVars}
use Rattle.tmem_explain.proofs.Limited.{all_told, keeps_all, none_told, none_yet, numbers_kept}
use Rattle.tmem_explain.proofs.limits.flaws_of_script.Goals as goal

pub returns-clause-told : goal.returns-clause-told
returns-clause-told c =
    let script = c.args.script.now in
    let first = none_yet (IsLimitFlaw script.vars script.slots script.entries.items) c.new-flaws.result.items c.new-flaws.ensures.items in
    all_told script.vars script.slots script.entries.items c.note_plans.new.flaws.items (c.in_ok-note_plans.ensures.only (c.in_ok-note_layout.ensures.only first))

pub returns-clause-limits : goal.returns-clause-limits
returns-clause-limits c =
    let script = c.args.script.now in
    let first = none_yet (IsLimitFlaw script.vars script.slots script.entries.items) c.new-flaws.result.items c.new-flaws.ensures.items in
    record {
      only = c.in_ok-note_plans.ensures.only (c.in_ok-note_layout.ensures.only first);
      of_vars = numbers_kept (MayHaveVars script.vars) TellsVars c.note_layout.new.flaws.items c.note_plans.new.flaws.items c.in_ok-note_plans.ensures.kept c.in_ok-note_layout.ensures.of_vars;
      of_slots = numbers_kept (MayHaveSlots script.slots) TellsSlots c.note_layout.new.flaws.items c.note_plans.new.flaws.items c.in_ok-note_plans.ensures.kept c.in_ok-note_layout.ensures.of_slots;
      each = c.in_ok-note_plans.ensures.each;
    }

pub returns-clause-some : goal.returns-clause-some
returns-clause-some c =
    let script = c.args.script.now in
    let first = none_yet (IsLimitFlaw script.vars script.slots script.entries.items) c.new-flaws.result.items c.new-flaws.ensures.items in
    none_told script.vars script.slots script.entries.items c.note_plans.new.flaws.items (c.in_ok-note_plans.ensures.only (c.in_ok-note_layout.ensures.only first))

pub returns-clause-fine : goal.returns-clause-fine
returns-clause-fine c =
    let script = c.args.script.now in
    let first = none_yet (IsLimitFlaw script.vars script.slots script.entries.items) c.new-flaws.result.items c.new-flaws.ensures.items in
    keeps_all script.vars script.slots script.entries.items c.note_plans.new.flaws.items (record {
      only = c.in_ok-note_plans.ensures.only (c.in_ok-note_layout.ensures.only first);
      of_vars = numbers_kept (MayHaveVars script.vars) TellsVars c.note_layout.new.flaws.items c.note_plans.new.flaws.items c.in_ok-note_plans.ensures.kept c.in_ok-note_layout.ensures.of_vars;
      of_slots = numbers_kept (MayHaveSlots script.slots) TellsSlots c.note_layout.new.flaws.items c.note_plans.new.flaws.items c.in_ok-note_plans.ensures.kept c.in_ok-note_layout.ensures.of_slots;
      each = c.in_ok-note_plans.ensures.each;
    })
