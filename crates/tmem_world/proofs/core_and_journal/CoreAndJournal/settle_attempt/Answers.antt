use Rattle.std.proofs.Common.{◌≡◌, ◌++◌, sym, ◌∙◌, ap, subst}
use Rattle.tmem_effect.specs.State.{State, IsWithin, StaysWithin, fold}
use Rattle.tmem_effect.proofs.Laws.{fold-append}
use Rattle.tmem_core.proofs.Laws.{StaysWithin-taken}
use Rattle.tmem_core.specs.Held.{core_state, waiting_of}
use Rattle.tmem_core.specs.SettleAnswer.{committed_by}
use Rattle.tmem_journal.specs.Held as journal
use Rattle.tmem_world.proofs.core_and_journal.CoreAndJournal.settle_attempt.Goals as goal

-- what waits, with what is committed now, makes the core's new state
commits : (g : _) (c : goal.After-settle g) → fold (journal.journal_state c.args.self.now.journal) (waiting_of c.args.self.now.core ++ committed_by c.settle.result c.attempt.result.now.effect) ≡ core_state c.settle.new.self
commits g c =
    let o = c.args.self.now in
    let es = committed_by c.settle.result c.attempt.result.now.effect in
    fold-append (journal.journal_state o.journal) (waiting_of o.core) es ∙ ap (λ (s : State). fold s es) o.waits ∙ sym (ap (λ v. v.state) c.settle.ensures.view)

pub invariant_of-self-clause-within : goal.invariant_of-self-clause-within
invariant_of-self-clause-within g c =
    let o = c.args.self.now in
    let durable = journal.journal_state o.journal in
    let new = c.settle.new.self in
    subst (StaysWithin durable) (sym (ap (λ v. v.waiting) c.settle.ensures.view))
    (StaysWithin-taken durable (waiting_of o.core) c.attempt.result.now.effect c.settle.result o.within (subst IsWithin (sym (commits g c)) (record { count = new.countable; names = new.registered.few })))

pub invariant_of-self-clause-waits : goal.invariant_of-self-clause-waits
invariant_of-self-clause-waits g c =
    let o = c.args.self.now in
    ap (λ v. fold (journal.journal_state o.journal) v.waiting) c.settle.ensures.view ∙ commits g c
