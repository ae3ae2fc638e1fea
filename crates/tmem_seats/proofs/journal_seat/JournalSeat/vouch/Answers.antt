use Rattle.std.proofs.Common.{◌≡◌, ap, ◌∙◌, arith}
use Rattle.tmem_spine.specs.History.{count}
use Rattle.tmem_spine.specs.Views.{JournalRoleView}
use Rattle.tmem_seats.proofs.journal_seat.JournalSeat.vouch.Goals as goal

pub returns-clause-answer : goal.returns-clause-answer
returns-clause-answer g c = c.count.ensures ∙ ap (λ (v : JournalRoleView). count g.N.Naming.name.start v.durable) c.meet_journal.ensures.journal

pub returns-clause-least : goal.returns-clause-least
returns-clause-least g c =
    let is : c.count.result ≡ count g.N.Naming.name.start c.args.self.now.side.durable =
    c.count.ensures ∙ ap (λ (v : JournalRoleView). count g.N.Naming.name.start v.durable) c.meet_journal.ensures.journal in
    omega (arith, is, c.meet_journal.ensures.least)

pub returns-clause-most : goal.returns-clause-most
returns-clause-most g c =
    let is : c.count.result ≡ count g.N.Naming.name.start c.args.self.now.side.durable =
    c.count.ensures ∙ ap (λ (v : JournalRoleView). count g.N.Naming.name.start v.durable) c.meet_journal.ensures.journal in
    omega (arith, is, c.meet_journal.ensures.most)

pub returns-clause-stands : goal.returns-clause-stands
returns-clause-stands g c = λ effect has. c.meet_journal.ensures.stands c.args.number effect c.requires has
