use Rattle.std.proofs.lemmas.Grind.{common_steps}
use Rattle.std.proofs.Common.{◌≡◌, All, ◌+◌, ◌-◌, ℕ, List, length, drop, arith, sym, ap, ◌∙◌, subst}
use Rattle.tmem_effect.specs.Loggable.{IsLoggable}
use Rattle.tmem_effect.specs.Prefix.{IsPrefix}
use Rattle.tmem_effect.specs.State.{State}
use Rattle.tmem_effect.specs.declared.effect.Effect.{Effect}
use Rattle.tmem_core.specs.Held as core
use Rattle.tmem_core.specs.Held.{core_state, waiting_of, durable_of}
use Rattle.tmem_core.specs.Taking.{IsTaken}
use Rattle.tmem_spine.specs.declared.view.MarkedEffect.{MarkedEffect}
use Rattle.tmem_spine.specs.History.{count, unmarked}
use Rattle.tmem_spine.specs.Views.{CoreRoleView, JournalRoleView}
use Rattle.tmem_seats.specs.Histories.{state_after_history}
use Rattle.tmem_seats.specs.Seats.{CoreSeatView}
use Rattle.tmem_seats.proofs.Seated.{values-after, count-after, drop_again}
use Rattle.tmem_seats.proofs.Taken.{goes_on}
use Rattle.tmem_seats.proofs.core_seat.CoreSeat.take.Goals as goal

-- the core's state, after it learned how many are durable
its_state : (g : _) (c : goal.After-aim g) → core_state c.learn_durable.new.self ≡ state_after_history g.N.StoreNaming.opening c.self.inside.side.committed
its_state g c = ap (λ (v : core.CoreView _). v.state) c.learn_durable.ensures ∙ c.self.invariant.state

-- what waits in it then
its_waiting : (g : _) (c : goal.After-aim g) → drop (c.trim_beside-durable.result - durable_of c.learn_durable.new.self) (waiting_of c.learn_durable.new.self)
    ≡ drop (length c.args.journal.now.durable) (unmarked c.self.inside.side.committed)
its_waiting g c =
    let was = c.self.invariant in
    let trim = c.trim_beside-durable.ensures in
    drop_again g.N.Naming.name.start c.trim_beside-durable.result (durable_of c.learn_durable.new.self) c.self.inside.side.trimmed (durable_of c.self.inside.core) c.args.journal.now.durable (waiting_of c.learn_durable.new.self) (waiting_of c.self.inside.core) (unmarked c.self.inside.side.committed)
    (ap (λ (v : core.CoreView _). v.durable) c.learn_durable.ensures) trim.exact was.trimmed was.late trim.least (ap (λ (v : core.CoreView _). v.waiting) c.learn_durable.ensures) was.waits

its_aim : (g : _) (c : goal.After-aim g) → IsPrefix c.aim.new.journal.aimed c.self.inside.side.committed
its_aim g c = subst (λ (l : List MarkedEffect). IsPrefix c.aim.new.journal.aimed l) (ap (λ (v : CoreRoleView). v.committed) c.trim_beside-durable.ensures.core) c.aim.ensures.ahead

pub returns-clause-goes_on : goal.returns-clause-goes_on
returns-clause-goes_on g c =
    let opening = g.N.StoreNaming.opening in
    let committed = c.self.inside.side.committed in
    let durable = c.args.journal.now.durable in
    let batch = c.take.new.batch in
    let aimed = c.aim.new.journal.aimed in
    let begins : IsPrefix durable aimed = subst (λ (l : List MarkedEffect). IsPrefix l aimed) (ap (λ (v : JournalRoleView). v.durable) c.trim_beside-durable.ensures.journal) c.aim.ensures.begins in
    let long : length aimed ≡ length durable + length batch = omega (arith, c.aim.ensures.number, c.trim_beside-durable.ensures.exact, c.len.ensures.len) in
    goes_on g.N.Naming.name.start opening committed durable aimed batch _ c.trim_beside-durable.ensures.begins begins (its_aim g c) long (sym (its_waiting g c) ∙ c.take.ensures.rest) c.take.ensures.few
    (subst (λ (k : ℕ). All (IsLoggable k) batch) (ap (λ (s : State). length s.values) (its_state g c) ∙ values-after opening committed) c.take.ensures.each)
    (omega (arith, c.learn_durable.new.self.countable, c.take.ensures.reached, c.aim.ensures.number, c.len.ensures.len))
    c.self.invariant.within

pub returns-clause-oldest : goal.returns-clause-oldest
returns-clause-oldest g c =
    let start = g.N.Naming.name.start in
    let committed = c.self.inside.side.committed in
    let view : committed ≡ c.args.self.now.committed = ap (λ (v : CoreSeatView). v.committed) c.self.view_is in
    record {
      ahead = subst (λ (l : List MarkedEffect). IsPrefix c.aim.new.journal.aimed l) view (its_aim g c);
      oldest = subst (λ (l : List MarkedEffect). IsTaken (drop (length c.args.journal.now.durable) (unmarked l)) c.take.new.batch) view (subst (λ (l : List Effect). IsTaken l c.take.new.batch) (its_waiting g c) c.take.ensures.taken);
      some = λ lt.
          let many : (core_state c.learn_durable.new.self).count ≡ count start committed = ap (λ (s : State). s.count) (its_state g c) ∙ count-after g.N.StoreNaming.opening start committed c.self.invariant.starts in
          let same = ap (λ (l : List MarkedEffect). length l) view in
          let exact = c.trim_beside-durable.ensures.exact in
          c.take.ensures.some (omega arith);
    }

pub invariant_of-self : goal.invariant_of-self
invariant_of-self g c = grind (arith, common_steps)
