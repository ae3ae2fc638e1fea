use Rattle.std.proofs.Common.{◌≡◌, None, sym, ap, ◌∙◌}
use Rattle.tmem_effect.specs.Names.{without_names}
use Rattle.tmem_effect.specs.State.{apply}
use Rattle.tmem_invariants.specs.Meanings.{first_false}
use Rattle.tmem_core.specs.Held.{CoreView}
use Rattle.tmem_core.specs.SettleAnswer.{sound_answer, unless_refused}
use Rattle.tmem_core.proofs.Known.{AllHold-apply, AreAmong-apply, few-apply, indices-apply}
use Rattle.tmem_core.proofs.core_state.Core.settle_normal.Goals as goal

pub commit-requires-clause-indices : goal.commit-requires-clause-indices
commit-requires-clause-indices g c =
    let core = c.args.self.now in
    let state = ap (λ (v : CoreView _). v.state) c.first_broken.ensures.view in
    let table = ap (λ (v : CoreView _). v.table) c.first_broken.ensures.view in
    rw (state, table) (indices-apply (g.T.Invariants.names core.table) core.state c.args.effect.now _ _ c.indices_kept-kept.ensures (rw c.as_slice.ensures.names at c.indices_of-proposed.ensures))

pub commit-requires-clause-room : goal.commit-requires-clause-room
commit-requires-clause-room g c =
    let core = c.args.self.now in
    let state = ap (λ (v : CoreView _). v.state) c.first_broken.ensures.view in
    rw state (few-apply (g.T.Invariants.names core.table) core.state c.args.effect.now core.registered.ascending core.known c.requires.names (g.met.T.Invariants.few core.table))

pub commit-requires-clause-known : goal.commit-requires-clause-known
commit-requires-clause-known g c =
    let core = c.args.self.now in
    let state = ap (λ (v : CoreView _). v.state) c.first_broken.ensures.view in
    let table = ap (λ (v : CoreView _). v.table) c.first_broken.ensures.view in
    rw (state, table) (AreAmong-apply (g.T.Invariants.names core.table) core.state c.args.effect.now core.known c.requires.names)

pub commit-requires-clause-sound : goal.commit-requires-clause-sound
commit-requires-clause-sound g c = λ m stated.
    let core = c.args.self.now in
    let e = c.args.effect.now in
    let names = g.T.Invariants.names core.table in
    let state = ap (λ (v : CoreView _). v.state) c.first_broken.ensures.view in
    let table = ap (λ (v : CoreView _). v.table) c.first_broken.ensures.view in
    let broken = c.first_broken.ensures.first m (rw table at stated) in
    let none : first_false m names (without_names core.state.names e.retired) e.names (apply core.state e).values ≡ None = sym broken ∙ c.in-None.is in
    rw state (AllHold-apply names core.state e core.known c.requires.names m none)

pub returns-in-Some-clause-answer : goal.returns-in-Some-clause-answer
returns-in-Some-clause-answer g c = λ p are registers.
    let s = c.args.self.now.state in
    let e = c.args.effect.now in
    let broken = sym c.in-Some.is ∙ c.first_broken.ensures.first p.tests are.tests ∙ ap (λ ns. first_false p.tests ns (without_names s.names e.retired) e.names (apply s e).values) (sym are.names) in
    ap (λ o. unless_refused o (sound_answer s c.args.self.now.durable e registers)) broken

pub returns-in-None-clause-answer : goal.returns-in-None-clause-answer
returns-in-None-clause-answer g c = λ p are registers.
    let s = c.args.self.now.state in
    let e = c.args.effect.now in
    let broken = sym c.in-None.is ∙ c.first_broken.ensures.first p.tests are.tests ∙ ap (λ ns. first_false p.tests ns (without_names s.names e.retired) e.names (apply s e).values) (sym are.names) in
    c.commit.ensures.answer registers ∙ ap (λ (v : CoreView _). sound_answer v.state v.durable e registers) c.first_broken.ensures.view
    ∙ ap (λ o. unless_refused o (sound_answer s c.args.self.now.durable e registers)) broken
