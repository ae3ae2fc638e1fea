use Rattle.std.proofs.Common.{◌≡◌, true, refl, sym, ◌∙◌}
use Rattle.std.proofs.lemmas.Bool.{false≢true}
use Rattle.tmem_fault.specs.Name.{has_name}
use Rattle.tmem_requests.proofs.Each.{all_at, all_more, all_whole}
use Rattle.tmem_requests.proofs.fits.are_named.Goals as goal

pub returns-then-not-has_name : goal.returns-then-not-has_name
returns-then-not-has_name c = (
  λ no. absurd (false≢true no),
  λ all. absurd (false≢true (sym c.if-not-has_name.true ∙ c.has_name.ensures ∙ all_at (λ n. has_name c.args.names.now n ≡ true) c.args.all.now c.loop-name.name-index c.name-item.result c.loop-name-test.true c.name-item.is all)),
)

pub loop-name-preserved : goal.loop-name-preserved
loop-name-preserved c =
    all_more (λ n. has_name c.args.names.now n ≡ true) c.args.all.now c.loop-name.name-index c.name-item.result c.loop-name-test.true c.name-item.is c.loop-name.invariant (sym c.has_name.ensures ∙ c.if-not-has_name.false)

pub returns : goal.returns
returns c = (
  λ yes. all_whole (λ n. has_name c.args.names.now n ≡ true) c.args.all.now c.loop-name.name-index c.loop-name-test.false c.loop-name.invariant,
  λ all. refl,
)
