use Rattle.tmem_show.proofs.refusal.refusal_before.Goals as goal

pub returns-clause-told : goal.returns-clause-told
returns-clause-told c = c.refusal_at.ensures.told 1 2 c.args.source.now.bytes.items c.in_ok-opening.ensures.found
