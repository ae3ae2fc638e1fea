use Rattle.tmem_explain.specs.Limits.{MayHaveVars, TellsVars}
use Rattle.tmem_explain.proofs.Limited.{numbers_kept}
use Rattle.tmem_explain.proofs.limits.note_layout.Goals as goal

pub returns-clause-only : goal.returns-clause-only
returns-clause-only c = λ all. c.in_ok-note_slots.ensures.only (c.in_ok-note_vars.ensures.only all)

pub returns-clause-of_vars : goal.returns-clause-of_vars
returns-clause-of_vars c = numbers_kept (MayHaveVars c.args.script.now.vars) TellsVars c.note_vars.new.flaws.items c.note_slots.new.flaws.items c.in_ok-note_slots.ensures.kept c.in_ok-note_vars.ensures.told

pub returns-clause-of_slots : goal.returns-clause-of_slots
returns-clause-of_slots c = c.in_ok-note_slots.ensures.told
