use Rattle.std.proofs.Common.{inl, sym, ◌∙◌, length, arith}
use Rattle.std.proofs.lemmas.Result.{IfOk-weaker, IfErr-weaker}
use Rattle.tmem_disk.specs.SimParts.{sim_view}
use Rattle.tmem_journal.specs.Calls.{FitsOn}
use Rattle.tmem_journal.specs.Held.{journal_state}
use Rattle.tmem_parts.proofs.Refusals.{not_copied, device_refused, state_found}
use Rattle.tmem_parts.proofs.recovery.recover.Goals as goal

pub returns-in-Ok-clause-found : goal.returns-in-Ok-clause-found
returns-in-Ok-clause-found c =
    IfOk-weaker c.copy_of.result _ _
    (λ copy same. state_found c.args.layout.vars c.args.layout.slots (sim_view c.in_ok-disk.disk).seen c.args.bytes.now (journal_state c.in-Ok.journal) copy _ c.in_ok-disk.ensures.seen (sym (same ∙ c.state.ensures)) (c.in-Ok.ensures.found tt))
    c.copy_of.ensures.same

pub returns-in-Ok-clause-refused : goal.returns-in-Ok-clause-refused
returns-in-Ok-clause-refused c =
    let fits : FitsOn c.args.layout.vars c.args.layout.slots (length c.args.bytes.now) = record { layout = c.args.layout.fits; room = omega arith } in
    IfErr-weaker c.copy_of.result _ _ (λ fault memory. not_copied c.args.layout.vars c.args.layout.slots c.args.bytes.now fault fits (inl memory)) c.copy_of.ensures.refused

pub returns-in-Err-clause-refused : goal.returns-in-Err-clause-refused
returns-in-Err-clause-refused c =
    device_refused c.args.layout.vars c.args.layout.slots c.args.bytes.now (sim_view c.in_ok-disk.disk) (sim_view c.in-Err._disk) c.in-Err.fault c.in_ok-disk.ensures.seen c.in_ok-disk.ensures.capacity tt c.in-Err.ensures.refused
