use Rattle.std.proofs.Common.{sym, ◌∙◌, subst}
use Rattle.std.proofs.lemmas.Bool.{false≢true}
use Rattle.tmem_effect.specs.Names.{AreApart}
use Rattle.tmem_requests.proofs.explain.settle.is_apart.Goals as goal

pub returns : goal.returns
returns c = λ no.
    let checks = c.in_ok-checks.checks.items in
    let retires = c.in_ok-retires.retires.items in
    record {
      checks = checks;
      retires = retires;
      are_checks = record { form = c.in_ok-checks.ensures.ok; are_names = c.in_ok-checks.ensures.in_range };
      are_retires = record { form = c.in_ok-retires.ensures.ok; are_names = c.in_ok-retires.ensures.in_range };
      both = λ apart. false≢true (sym no ∙ c.are_apart.ensures.1
          (subst (λ ns. AreApart ns c.deref-2.result.now) (sym c.deref.ensures.value) (subst (λ ms. AreApart checks ms) (sym c.deref-2.ensures.value) apart)));
    }
