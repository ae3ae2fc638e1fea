use Rattle.std.proofs.Common.{◌≡◌, false, refl, sym, ◌∙◌}
use Rattle.std.proofs.lemmas.Bool.{false≢true}
use Rattle.tmem_fault.specs.Name.{has_name}
use Rattle.tmem_requests.proofs.Each.{all_at, all_more, all_whole}
use Rattle.tmem_requests.proofs.limits.are_apart.Goals as goal

pub returns-then-has_name : goal.returns-then-has_name
returns-then-has_name c = (
  λ no. absurd (cc),
  λ all. absurd (false≢true (sym (all_at (λ n. has_name c.args.others.now n ≡ false) c.args.names.now c.loop-name.name-index c.name-item.result c.loop-name-test.true c.name-item.is all) ∙ sym c.has_name.ensures ∙ c.if-has_name.true)),
)

pub loop-name-preserved : goal.loop-name-preserved
loop-name-preserved c =
    all_more (λ n. has_name c.args.others.now n ≡ false) c.args.names.now c.loop-name.name-index c.name-item.result c.loop-name-test.true c.name-item.is c.loop-name.invariant (sym c.has_name.ensures ∙ c.if-has_name.false)

pub returns : goal.returns
returns c = (
  λ yes. all_whole (λ n. has_name c.args.others.now n ≡ false) c.args.names.now c.loop-name.name-index c.loop-name-test.false c.loop-name.invariant,
  λ all. refl,
)
