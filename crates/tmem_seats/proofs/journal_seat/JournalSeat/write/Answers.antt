use Rattle.std.proofs.Common.{◌≡◌, inl, inr, List, refl, sym, ap, ◌∙◌, subst, arith}
use Rattle.std.proofs.Math.Logic.{∥∥₁_map}
use Rattle.tmem_effect.specs.Prefix.{IsPrefix}
use Rattle.tmem_effect.specs.State.{State, StaysWithin}
use Rattle.tmem_record.specs.declared.layout.Layout.{Layout}
use Rattle.tmem_effect.proofs.Laws.{IsPrefix-self}
use Rattle.tmem_spine.specs.declared.view.MarkedEffect.{MarkedEffect}
use Rattle.tmem_spine.specs.History.{count}
use Rattle.tmem_spine.specs.Views.{JournalRoleView}
use Rattle.tmem_seats.specs.Histories.{state_after_history}
use Rattle.tmem_seats.proofs.Seated.{count-after}
use Rattle.tmem_seats.proofs.Refusals.{flush_refusal}
use Rattle.tmem_seats.proofs.Written.{Leaves, written_ok, written_err, written_number, moments, long_aimed, both, state_left, ok_number}
use Rattle.tmem_seats.proofs.journal_seat.JournalSeat.write.Goals as goal

pub flush-flushed-requires-clause-within : goal.flush-flushed-requires-clause-within
flush-flushed-requires-clause-within g c =
    let seat = c.args.self.now in
    subst (λ (s : State). StaysWithin s seat.batch) (sym seat.state) c.requires.goes_on.room

pub harden-requires : goal.harden-requires
harden-requires g c =
    let seat = c.args.self.now in
    omega (arith, c.len.ensures.len, long_aimed seat.side.durable seat.side.aimed seat.batch c.requires.goes_on.more)

-- what a batch leaves that was refused
left_err : (g : _) (c : goal.Else-is_ok g) → ∥ Leaves g.N.StoreNaming.opening c.args.self.now.side.durable c.args.self.now.side.aimed c.flush-flushed.new.self ∥₁
left_err g c =
    let seat = c.args.self.now in
    ∥∥₁_map seat.doubt (λ d. written_err g.N.Naming.name.start g.N.StoreNaming.opening seat.side.durable seat.side.aimed seat.batch c.requires.goes_on seat.journal c.flush-flushed.new.self seat.state c.flush-flushed.result (sym c.is_ok.ensures.value ∙ c.if-is_ok.false) d c.flush-flushed.ensures.flushed)

pub invariant_of-self : goal.invariant_of-self
invariant_of-self g c =
    let opening = g.N.StoreNaming.opening in
    let seat = c.args.self.now in
    let left = written_ok g.N.Naming.name.start g.N.StoreNaming.opening seat.side.durable seat.side.aimed seat.batch c.requires.goes_on seat.journal c.flush-flushed.new.self seat.state c.flush-flushed.result (sym c.is_ok.ensures.value ∙ c.if-is_ok.true) c.flush-flushed.ensures.flushed in
    let now_durable : c.harden.new.journal.durable ≡ seat.side.aimed = ap (λ (v : JournalRoleView). v.durable) c.harden.ensures in
    let now_aimed : c.harden.new.journal.aimed ≡ seat.side.aimed = ap (λ (v : JournalRoleView). v.aimed) c.harden.ensures in
    record {
      state = left.state ∙ ap (λ (l : List MarkedEffect). state_after_history opening l) (sym now_durable);
      starts = seat.starts;
      doubt = ∣ inl (both left.doubt ∙ ap (λ (l : List MarkedEffect). state_after_history opening l) (sym now_durable)) ∣₁;
      begins = subst (λ (l : List MarkedEffect). IsPrefix l c.harden.new.journal.aimed) (now_aimed ∙ sym now_durable) (IsPrefix-self c.harden.new.journal.aimed);
      over = ap (λ (l : Layout). l.vars) c.flush-flushed.ensures.layout ∙ seat.over;
    }

pub invariant_of-self-else-is_ok : goal.invariant_of-self-else-is_ok
invariant_of-self-else-is_ok g c =
    let seat = c.args.self.now in
    record {
      state = state_left (left_err g c);
      starts = seat.starts;
      doubt = ∥∥₁_map (left_err g c) (λ l. l.doubt);
      begins = seat.begins;
      over = ap (λ (l : Layout). l.vars) c.flush-flushed.ensures.layout ∙ seat.over;
    }

pub returns-then-is_ok-clause-ok : goal.returns-then-is_ok-clause-ok
returns-then-is_ok-clause-ok g c =
    let start = g.N.Naming.name.start in
    let seat = c.args.self.now in
    let aimed = seat.side.aimed in
    let now_durable : c.harden.new.journal.durable ≡ aimed = ap (λ (v : JournalRoleView). v.durable) c.harden.ensures in
    ok_number c.flush-flushed.result (λ n. (c.harden.new.journal.durable ≡ aimed) × (n ≡ count start c.harden.new.journal.durable)) (λ n is. (
      now_durable,
      (written_number start g.N.StoreNaming.opening seat.side.durable aimed seat.batch c.requires.goes_on seat.journal c.flush-flushed.new.self seat.state c.flush-flushed.result n is c.flush-flushed.ensures.flushed ∙ count-after g.N.StoreNaming.opening start aimed seat.starts) ∙ ap (λ (l : List MarkedEffect). count start l) (sym now_durable),
    ))

pub returns-then-is_ok-clause-any_moment : goal.returns-then-is_ok-clause-any_moment
returns-then-is_ok-clause-any_moment g c =
    let seat = c.args.self.now in
    moments g.N.StoreNaming.opening seat.side.durable seat.side.aimed seat.side.aimed seat.journal c.flush-flushed.new.self (∥∥₁_map seat.doubt (λ d. record { state = seat.state; doubt = d })) ∣ written_ok g.N.Naming.name.start g.N.StoreNaming.opening seat.side.durable seat.side.aimed seat.batch c.requires.goes_on seat.journal c.flush-flushed.new.self seat.state c.flush-flushed.result (sym c.is_ok.ensures.value ∙ c.if-is_ok.true) c.flush-flushed.ensures.flushed ∣₁ (inr refl) c.flush-flushed.ensures.layout c.flush-flushed.ensures.any_moment

pub returns-else-is_ok-clause-any_moment : goal.returns-else-is_ok-clause-any_moment
returns-else-is_ok-clause-any_moment g c =
    let seat = c.args.self.now in
    moments g.N.StoreNaming.opening seat.side.durable seat.side.aimed seat.side.durable seat.journal c.flush-flushed.new.self (∥∥₁_map seat.doubt (λ d. record { state = seat.state; doubt = d })) (∥∥₁_map seat.doubt (λ d. written_err g.N.Naming.name.start g.N.StoreNaming.opening seat.side.durable seat.side.aimed seat.batch c.requires.goes_on seat.journal c.flush-flushed.new.self seat.state c.flush-flushed.result (sym c.is_ok.ensures.value ∙ c.if-is_ok.false) d c.flush-flushed.ensures.flushed)) (inl refl) c.flush-flushed.ensures.layout c.flush-flushed.ensures.any_moment

pub returns-then-is_ok-clause-refused : goal.returns-then-is_ok-clause-refused
returns-then-is_ok-clause-refused g c = flush_refusal c.args.self.now.journal c.flush-flushed.new.self c.args.self.now.batch c.flush-flushed.result c.flush-flushed.ensures.flushed

pub returns-else-is_ok-clause-refused : goal.returns-else-is_ok-clause-refused
returns-else-is_ok-clause-refused g c = flush_refusal c.args.self.now.journal c.flush-flushed.new.self c.args.self.now.batch c.flush-flushed.result c.flush-flushed.ensures.flushed
