use Rattle.std.proofs.Common.{◌≡◌, ◌∙◌, sym, arith, rules}
use Rattle.tmem_journal.proofs.Refused.{same_numbers, same_block, same_version}
use Rattle.tmem_journal.proofs.block.block_in.Goals as goal

pub returns-in_default-clause-none : goal.returns-in_default-clause-none
returns-in_default-clause-none c = λ version vars slots layout is. c.in_default.ensures.none version (same_version version vars slots c.args.bytes.now is)

pub returns-in_default-new-clause-none : goal.returns-in_default-new-clause-none
returns-in_default-new-clause-none c = λ version vars slots layout is.
    let same = same_numbers version vars slots layout c.args.bytes.now is c.short_at-vars.result c.short_at-slots.result (omega arith) (omega arith) c.short_at-vars.ensures c.short_at-slots.ensures in
    let one = same_block version c.in-Some.version vars slots (sym (same_version version vars slots c.args.bytes.now is) ∙ c.in-Some.ensures.found) in
    let spelled : c.args.bytes.now ≡ c.spell_block.result = is ∙ one ∙ rw (← same.0, ← same.1) (sym c.spell_block.ensures) in
    search (spelled, rules)

pub returns-in_default-new-2-clause-none : goal.returns-in_default-new-2-clause-none
returns-in_default-new-2-clause-none c = λ version vars slots layout is.
    let same = same_numbers version vars slots layout c.args.bytes.now is c.short_at-vars.result c.short_at-slots.result (omega arith) (omega arith) c.short_at-vars.ensures c.short_at-slots.ensures in
    let ok = c.new.ensures.ok.1 (rw (same.0, same.1) layout) in
    search (ok, rules)
