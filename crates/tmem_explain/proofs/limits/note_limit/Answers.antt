use Rattle.std.proofs.Common.{inr}
use Rattle.tmem_explain.specs.Limits.{IsLimitFlaw}
use Rattle.tmem_explain.proofs.Limited.{among_more, only_more, told_last}
use Rattle.tmem_explain.proofs.limits.note_limit.Goals as goal

pub returns-clause-only : goal.returns-clause-only
returns-clause-only c = λ all.
    let script = c.args.script.now in
    let index = c.args.index in
    only_more (IsLimitFlaw script.vars script.slots script.entries.items) c.args.flaws.now.items c.push.new.self.items c.in_ok-flaw.flaw c.in_ok-push.ensures.items (record {
      told = c.in_ok-flaw.ensures.told;
      broken = inr (index, c.args.tx.now, c.args.cause, c.requires, c.breaks.ensures.0 c.if-not-breaks.false, c.in_ok-flaw.ensures.limit c.args.tx.now c.requires);
    }) all

pub returns-clause-kept : goal.returns-clause-kept
returns-clause-kept c = among_more _ _ c.in_ok-flaw.flaw c.in_ok-push.ensures.items

pub returns-clause-told : goal.returns-clause-told
returns-clause-told c = λ breaks. told_last _ _ _ c.in_ok-flaw.flaw c.in_ok-push.ensures.items (c.in_ok-flaw.ensures.limit c.args.tx.now c.requires)
