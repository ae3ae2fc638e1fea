use Rattle.tmem_explain.specs.Limits.{BreaksLimit, HasFlaw, KeepsFlaws, TellsLimit}
use Rattle.tmem_explain.proofs.Limited.{each_cause, still_told}
use Rattle.tmem_explain.proofs.limits.note_limits.Goals as goal

pub returns-clause-only : goal.returns-clause-only
returns-clause-only c = λ all. c.in_ok-note_limit-10.ensures.only (c.in_ok-note_limit-9.ensures.only (c.in_ok-note_limit-8.ensures.only (c.in_ok-note_limit-7.ensures.only (c.in_ok-note_limit-6.ensures.only (c.in_ok-note_limit-5.ensures.only (c.in_ok-note_limit-4.ensures.only (c.in_ok-note_limit-3.ensures.only (c.in_ok-note_limit-2.ensures.only (c.in_ok-note_limit.ensures.only all)))))))))

pub returns-clause-kept : goal.returns-clause-kept
returns-clause-kept c = λ flaw there. c.in_ok-note_limit-10.ensures.kept flaw (c.in_ok-note_limit-9.ensures.kept flaw (c.in_ok-note_limit-8.ensures.kept flaw (c.in_ok-note_limit-7.ensures.kept flaw (c.in_ok-note_limit-6.ensures.kept flaw (c.in_ok-note_limit-5.ensures.kept flaw (c.in_ok-note_limit-4.ensures.kept flaw (c.in_ok-note_limit-3.ensures.kept flaw (c.in_ok-note_limit-2.ensures.kept flaw (c.in_ok-note_limit.ensures.kept flaw there)))))))))

pub returns-clause-each : goal.returns-clause-each
returns-clause-each c =
    let k9 : KeepsFlaws c.note_limit-9.new.flaws.items c.note_limit-10.new.flaws.items = c.in_ok-note_limit-10.ensures.kept in
    let k8 : KeepsFlaws c.note_limit-8.new.flaws.items c.note_limit-10.new.flaws.items = λ flaw there. k9 flaw (c.in_ok-note_limit-9.ensures.kept flaw there) in
    let k7 : KeepsFlaws c.note_limit-7.new.flaws.items c.note_limit-10.new.flaws.items = λ flaw there. k8 flaw (c.in_ok-note_limit-8.ensures.kept flaw there) in
    let k6 : KeepsFlaws c.note_limit-6.new.flaws.items c.note_limit-10.new.flaws.items = λ flaw there. k7 flaw (c.in_ok-note_limit-7.ensures.kept flaw there) in
    let k5 : KeepsFlaws c.note_limit-5.new.flaws.items c.note_limit-10.new.flaws.items = λ flaw there. k6 flaw (c.in_ok-note_limit-6.ensures.kept flaw there) in
    let k4 : KeepsFlaws c.note_limit-4.new.flaws.items c.note_limit-10.new.flaws.items = λ flaw there. k5 flaw (c.in_ok-note_limit-5.ensures.kept flaw there) in
    let k3 : KeepsFlaws c.note_limit-3.new.flaws.items c.note_limit-10.new.flaws.items = λ flaw there. k4 flaw (c.in_ok-note_limit-4.ensures.kept flaw there) in
    let k2 : KeepsFlaws c.note_limit-2.new.flaws.items c.note_limit-10.new.flaws.items = λ flaw there. k3 flaw (c.in_ok-note_limit-3.ensures.kept flaw there) in
    let k1 : KeepsFlaws c.note_limit.new.flaws.items c.note_limit-10.new.flaws.items = λ flaw there. k2 flaw (c.in_ok-note_limit-2.ensures.kept flaw there) in
    each_cause (λ cause. BreaksLimit c.args.script.now.vars c.args.tx.now cause → HasFlaw (TellsLimit c.args.script.now.vars c.args.index c.args.tx.now cause) c.note_limit-10.new.flaws.items)
    (λ breaks. still_told _ _ _ k1 (c.in_ok-note_limit.ensures.told breaks))
    (λ breaks. still_told _ _ _ k2 (c.in_ok-note_limit-2.ensures.told breaks))
    (λ breaks. still_told _ _ _ k3 (c.in_ok-note_limit-3.ensures.told breaks))
    (λ breaks. still_told _ _ _ k4 (c.in_ok-note_limit-4.ensures.told breaks))
    (λ breaks. still_told _ _ _ k5 (c.in_ok-note_limit-5.ensures.told breaks))
    (λ breaks. still_told _ _ _ k6 (c.in_ok-note_limit-6.ensures.told breaks))
    (λ breaks. still_told _ _ _ k7 (c.in_ok-note_limit-7.ensures.told breaks))
    (λ breaks. still_told _ _ _ k8 (c.in_ok-note_limit-8.ensures.told breaks))
    (λ breaks. still_told _ _ _ k9 (c.in_ok-note_limit-9.ensures.told breaks))
    c.in_ok-note_limit-10.ensures.told
