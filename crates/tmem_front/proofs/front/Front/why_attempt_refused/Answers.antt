use Rattle.std.proofs.Common.{◌≡◌, ℤ, map, Some, ap, sym, subst}
use Rattle.std.specs.Prelude.{IfOk, IfSome}
use Rattle.tmem_seats.specs.Histories.{state_after_history}
use Rattle.tmem_spine.specs.Views.{PassRoleView}
use Rattle.tmem_seats.specs.Refusing.{AreEndValues, end_value}
use Rattle.tmem_front.proofs.Refused.{named_among, meant_among, ends_told}
use Rattle.tmem_front.proofs.front.Front.why_attempt_refused.Goals as goal

pub told_where_false-requires-clause-named : goal.told_where_false-requires-clause-named
told_where_false-requires-clause-named g c =
    let names = g.N.ProgramNaming.program.names in
    let signature = c.in-Some.signature.now in
    named_among c.deref.result.now signature names c.in-Some.ensures.among (rw c.deref.ensures.value c.args.self.now.named)

pub returns-clause-end : goal.returns-clause-end
returns-clause-end g c =
    let tests = g.N.ProgramNaming.program.tests in
    let signature = c.in-Some.signature.now in
    let meant = meant_among tests c.deref.result.now signature (rw c.deref.ensures.value c.args.self.now.meant) c.in-Some.ensures.among in
    let writes = c.args.attempt.now.effect.writes in
    let committed = c.meet-count.new.self.committed in
    let ends : map (λ (n : ℤ). Some n) c.at_end-values.result ≡ map (end_value (state_after_history g.N.StoreNaming.opening committed).values writes) signature.footprint = c.at_end-values.ensures.values in
    let known : c.meet-count.new.seat.known ≡ committed = ap (λ (p : PassRoleView). p.known) c.meet-count.ensures.pass in
    subst (λ log. IfOk c.told_where_false.result (λ found. IfSome found (λ values. AreEndValues (state_after_history g.N.StoreNaming.opening log).values writes values.items))) (sym known)
    (ends_told (λ values. values.items) tests signature.name _ writes signature.footprint c.at_end-values.result c.told_where_false.result c.told_where_false.ensures.why c.told_where_false.ensures.same meant ends)

pub told_where_false-requires-clause-meant : goal.told_where_false-requires-clause-meant
told_where_false-requires-clause-meant g c =
    let tests = g.N.ProgramNaming.program.tests in
    let signature = c.in-Some.signature.now in
    meant_among tests c.deref.result.now signature (rw c.deref.ensures.value c.args.self.now.meant) c.in-Some.ensures.among
