use Rattle.std.proofs.Common.{◌≡◌, ◌≤◌, List, ap, ◌∙◌, subst}
use Rattle.tmem_disk.specs.Disk.{AtEachMoment}
use Rattle.tmem_record.specs.declared.layout.Layout.{Layout}
use Rattle.tmem_spine.specs.declared.view.MarkedEffect.{MarkedEffect}
use Rattle.tmem_journal.specs.Held.{journal_device, journal_layout, is_closed_of}
use Rattle.tmem_journal.specs.Contents.{ContentRepresentsEither}
use Rattle.tmem_seats.specs.Histories.{state_after_history}
use Rattle.tmem_seats.proofs.Room.{both_times, was_full, while_room_is_made}
use Rattle.tmem_seats.proofs.journal_seat.JournalSeat.write_with_room.Goals as goal

pub returns-in_err-checkpoint-in-Err-LogFull-clause-any_moment : goal.returns-in_err-checkpoint-in-Err-LogFull-clause-any_moment
returns-in_err-checkpoint-in-Err-LogFull-clause-any_moment g c =
    let opening = g.N.StoreNaming.opening in
    let seat = c.args.self.now in
    let full = c.write.new.self in
    let full_log = was_full seat.journal full.journal seat.batch c.in-Err-LogFull.field-0 c.in-Err-LogFull.field-0-is c.in-Err-LogFull.ensures.flushed in
    let same = full_log.1 in
    while_room_is_made (state_after_history opening seat.side.durable) (state_after_history opening seat.side.aimed) (state_after_history opening full.side.durable) seat.journal full.journal c.checkpoint.new.self.journal same
    (ap (λ (l : List MarkedEffect). state_after_history opening l) c.in-Err-LogFull.ensures.err)
    (c.checkpoint.ensures.any_moment (ap (λ j. is_closed_of j) same ∙ full_log.0))

pub returns-in_ok-checkpoint-in-Err-LogFull-clause-any_moment : goal.returns-in_ok-checkpoint-in-Err-LogFull-clause-any_moment
returns-in_ok-checkpoint-in-Err-LogFull-clause-any_moment g c =
    let opening = g.N.StoreNaming.opening in
    let seat = c.args.self.now in
    let full = c.write.new.self in
    let roomy = c.checkpoint.new.self in
    let new = c.write-in-Err-LogFull.new.self in
    let full_log = was_full seat.journal full.journal seat.batch c.in-Err-LogFull.field-0 c.in-Err-LogFull.field-0-is c.in-Err-LogFull.ensures.flushed in
    let same = full_log.1 in
    let first = while_room_is_made (state_after_history opening seat.side.durable) (state_after_history opening seat.side.aimed) (state_after_history opening full.side.durable) seat.journal full.journal roomy.journal same
    (ap (λ (l : List MarkedEffect). state_after_history opening l) c.in-Err-LogFull.ensures.err)
    (c.checkpoint.ensures.any_moment (ap (λ j. is_closed_of j) same ∙ full_log.0)) in
    let layout : journal_layout roomy.journal ≡ journal_layout seat.journal = c.checkpoint.ensures.layout ∙ ap (λ j. journal_layout j) same in
    let durable : roomy.side.durable ≡ seat.side.durable = ap (λ v. v.durable) c.checkpoint.ensures.side.0 ∙ c.in-Err-LogFull.ensures.err in
    let aimed : roomy.side.aimed ≡ seat.side.aimed = ap (λ v. v.aimed) c.checkpoint.ensures.side.0 ∙ c.in-Err-LogFull.ensures.aimed in
    let second = subst (λ (l : Layout). AtEachMoment (journal_device roomy.journal) (journal_device new.journal) (ContentRepresentsEither l.vars l.slots (state_after_history opening seat.side.durable) (state_after_history opening seat.side.aimed))) layout
    (subst (λ (l : List MarkedEffect). AtEachMoment (journal_device roomy.journal) (journal_device new.journal) (ContentRepresentsEither (journal_layout roomy.journal).vars (journal_layout roomy.journal).slots (state_after_history opening seat.side.durable) (state_after_history opening l))) aimed
    (subst (λ (l : List MarkedEffect). AtEachMoment (journal_device roomy.journal) (journal_device new.journal) (ContentRepresentsEither (journal_layout roomy.journal).vars (journal_layout roomy.journal).slots (state_after_history opening l) (state_after_history opening roomy.side.aimed))) durable
    c.write-in-Err-LogFull.ensures.any_moment)) in
    both_times (journal_device seat.journal) (journal_device roomy.journal) (journal_device new.journal) _ _ c.write-in-Err-LogFull.ensures.uses.model
    (subst (λ j. (journal_device roomy.journal).keeps_model → (journal_device j).moment ≤ (journal_device roomy.journal).moment) same c.checkpoint.ensures.elsewhere.time.later)
    c.write-in-Err-LogFull.ensures.elsewhere.time first second

pub returns-in_err-checkpoint-in-Err-LogFull-clause-aimed : goal.returns-in_err-checkpoint-in-Err-LogFull-clause-aimed
returns-in_err-checkpoint-in-Err-LogFull-clause-aimed g c =
    let aimed : c.checkpoint.new.self.side.aimed ≡ c.args.self.now.side.aimed = ap (λ v. v.aimed) c.checkpoint.ensures.side.0 ∙ c.in-Err-LogFull.ensures.aimed in
    aimed

pub returns-in_ok-checkpoint-in-Err-LogFull-clause-aimed : goal.returns-in_ok-checkpoint-in-Err-LogFull-clause-aimed
returns-in_ok-checkpoint-in-Err-LogFull-clause-aimed g c =
    let aimed : c.checkpoint.new.self.side.aimed ≡ c.args.self.now.side.aimed = ap (λ v. v.aimed) c.checkpoint.ensures.side.0 ∙ c.in-Err-LogFull.ensures.aimed in
    c.write-in-Err-LogFull.ensures.aimed ∙ aimed
