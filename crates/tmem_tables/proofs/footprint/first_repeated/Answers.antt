use Rattle.std.proofs.Common.{nat_eq, sym, ◌∙◌}
use Rattle.std.proofs.lemmas.Bool.Decides.{Decides-eqb}
use Rattle.std.proofs.lemmas.Option.{slice_get-get_or}
use Rattle.tmem_invariants.proofs.Laws.{AreDistinct-take_more, AreDistinct_whole, not-AreDistinct, not-AreDistinct-take}
use Rattle.tmem_tables.proofs.footprint.first_repeated.Goals as goal

pub returns-then-contains-clause-distinct : goal.returns-then-contains-clause-distinct
returns-then-contains-clause-distinct c =
    not-AreDistinct nat_eq Decides-eqb _ _ _ (slice_get-get_or c.args.variables.now c.loop-i.i 0 c.loop-i-test.true) (sym c.contains.ensures.value ∙ c.if-contains.true)

pub returns-then-contains-clause-first : goal.returns-then-contains-clause-first
returns-then-contains-clause-first c = (
  c.loop-i-test.true,
  c.loop-i.invariant,
  not-AreDistinct-take nat_eq Decides-eqb _ _ _ (slice_get-get_or c.args.variables.now c.loop-i.i 0 c.loop-i-test.true) (sym c.contains.ensures.value ∙ c.if-contains.true),
)

pub loop-i-preserved : goal.loop-i-preserved
loop-i-preserved c =
    AreDistinct-take_more nat_eq Decides-eqb _ _ _ (slice_get-get_or c.args.variables.now c.loop-i.i 0 c.loop-i-test.true) c.loop-i.invariant (sym c.contains.ensures.value ∙ c.if-contains.false)

pub returns-clause-distinct : goal.returns-clause-distinct
returns-clause-distinct c = AreDistinct_whole c.args.variables.now c.loop-i.i c.loop-i-test.false c.loop-i.invariant
