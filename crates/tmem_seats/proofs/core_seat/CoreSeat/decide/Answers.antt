use Rattle.std.proofs.Common.{◌≡◌, ℕ, ◌+◌, ◌++◌, Bool, Result, length, sym, ap, ◌∙◌, subst, arith, rules}
use Rattle.tmem_fault.specs.declared.fault.Fault.{Fault}
use Rattle.tmem_effect.specs.State.{State}
use Rattle.tmem_effect.proofs.Laws.{count-fold, IsPrefix-self}
use Rattle.tmem_core.specs.Held as core
use Rattle.tmem_core.specs.Held.{core_state, durable_of, is_shut_of, core_table, committing}
use Rattle.tmem_core.specs.Decisions.{taken_by, RetriesAt}
use Rattle.tmem_core.specs.Program.{IsProgramOf}
use Rattle.tmem_core.specs.SettleAnswer.{settle_answer, judged}
use Rattle.tmem_core.specs.Verdict.{verdict}
use Rattle.tmem_tree.specs.declared.settled.Settled.{Settled}
use Rattle.tmem_spine.specs.History.{count}
use Rattle.tmem_spine.specs.Views.{CoreRoleView}
use Rattle.tmem_seats.specs.Histories.{state_after_history, marked}
use Rattle.tmem_seats.specs.Seats.{CoreSeatView}
use Rattle.tmem_seats.proofs.Seated.{values-after, count-after, core_settled}
use Rattle.tmem_seats.proofs.core_seat.CoreSeat.decide.Goals as goal

pub decide-decision-requires-clause-variables : goal.decide-decision-requires-clause-variables
decide-decision-requires-clause-variables g c =
    let opening = g.N.StoreNaming.opening in
    let was = c.self.invariant in
    let same : length (core_state c.learn_durable.new.self).values ≡ length opening.values =
    ap (λ (v : core.CoreView _). length v.state.values) c.learn_durable.ensures ∙ ap (λ (s : State). length s.values) was.state ∙ values-after opening c.self.inside.side.committed in
    rw same c.requires.variables

pub enter-requires-clause-room : goal.enter-requires-clause-room
enter-requires-clause-room g c =
    let was = c.self.invariant in
    let side = c.self.inside.side in
    let es = taken_by c.decide-decision.result c.args.attempt.now in
    let more : (core_state c.decide-decision.new.self).count ≡ (core_state c.self.inside.core).count + length es =
    ap (λ (v : core.CoreView _). v.state.count) (c.decide-decision.ensures.settles.view ∙ ap (committing es) c.learn_durable.ensures) ∙ count-fold (core_state c.self.inside.core) es in
    omega (arith, c.decide-decision.new.self.countable, more, ap (λ (s : State). s.count) was.state, count-after g.N.StoreNaming.opening g.N.Naming.name.start side.committed was.starts, ap (λ (v : CoreRoleView). length v.committed) c.trim-durable.ensures.core)

pub invariant_of-self : goal.invariant_of-self
invariant_of-self g c =
    let d = c.decide-decision.result in
    let a = c.args.attempt.now in
    core_settled g.N.Naming.name.start g.N.StoreNaming.opening g.N.ProgramNaming.program c.self.inside.core c.decide-decision.new.self c.self.inside.side c.enter.new.side c.trim-durable.new.pass.mark c.trim-durable.result d a c.self.invariant
    (c.decide-decision.ensures.settles.view ∙ ap (committing (taken_by d a)) c.learn_durable.ensures) c.trim-durable.ensures.least.0 c.trim-durable.ensures.most
    (c.enter.ensures.side ∙ ap (λ (v : CoreRoleView). record v { committed = v.committed ++ marked c.trim-durable.new.pass.mark (taken_by d a) }) c.trim-durable.ensures.core)

-- what is answered by the core that learned how many are durable, by what its seat showed before
as_seen : (g : _) (c : goal.After-enter g) (F : Bool → State → ℕ → Result Settled Fault) → F (is_shut_of c.learn_durable.new.self) (core_state c.learn_durable.new.self) (durable_of c.learn_durable.new.self)
    ≡ F c.args.self.now.is_shut (state_after_history g.N.StoreNaming.opening c.args.self.now.committed) c.enter.new.side.trimmed
as_seen g c F =
    ap (λ (v : core.CoreView _). F v.is_shut v.state v.durable) c.learn_durable.ensures ∙ ap (λ (s : State). F (is_shut_of c.self.inside.core) s c.trim-durable.result) c.self.invariant.state
    ∙ ap (λ (v : CoreSeatView). F v.is_shut (state_after_history g.N.StoreNaming.opening v.committed) c.trim-durable.result) c.self.view_is
    ∙ sym (ap (λ (v : CoreRoleView). F c.args.self.now.is_shut (state_after_history g.N.StoreNaming.opening c.args.self.now.committed) v.trimmed) (c.enter.ensures.side ∙ ap (λ (v : CoreRoleView). record v { committed = v.committed ++ marked c.trim-durable.new.pass.mark (taken_by c.decide-decision.result c.args.attempt.now) }) c.trim-durable.ensures.core))

its_program : (g : _) (c : goal.After-enter g) → IsProgramOf g.T.Invariants (core_table c.learn_durable.new.self) g.N.ProgramNaming.program
its_program g c = subst (λ x. IsProgramOf g.T.Invariants x g.N.ProgramNaming.program) (sym (ap (λ (v : core.CoreView _). v.table) c.learn_durable.ensures)) c.self.invariant.table

pub returns-clause-decided : goal.returns-clause-decided
returns-clause-decided g c =
    let p = g.N.ProgramNaming.program in record {
      trimmed = search rules;
      answered = c.decide-decision.ensures.settles.answer p (its_program g c) ∙ as_seen g c (λ shut s n. settle_answer p shut s n c.args.attempt.now);
      verdict = λ tx right. c.decide-decision.ensures.settles.verdict p tx (its_program g c) right ∙ as_seen g c (λ shut s n. judged shut s n c.args.attempt.now.reads.entries (verdict p tx s));
      number = count-after g.N.StoreNaming.opening g.N.Naming.name.start c.args.self.now.committed c.self.invariant.starts;
      committed = search rules;
      knows = search rules;
      begins = search rules;
      sound = (invariant_of-self g c).sound c.enter.new.side.committed (IsPrefix-self c.enter.new.side.committed);
      rest = search rules;
    }

pub returns-clause-retries : goal.returns-clause-retries
returns-clause-retries g c =
    let start = g.N.Naming.name.start in
    let opening = g.N.StoreNaming.opening in
    let state = ap (λ (v : core.CoreView _). v.state) c.learn_durable.ensures ∙ c.self.invariant.state in
    let many = ap (λ (s : State). s.count) state ∙ count-after opening start c.self.inside.side.committed c.self.invariant.starts ∙ ap (λ (v : CoreSeatView). count start v.committed) c.self.view_is in
    subst (λ (n : ℕ). RetriesAt n c.decide-decision.result) many c.decide-decision.ensures.retries
