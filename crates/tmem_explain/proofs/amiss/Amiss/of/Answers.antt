use Rattle.std.proofs.Common.{subst}
use Rattle.tmem_requests.specs.Wrong.{IsWrong}
use Rattle.tmem_explain.proofs.Amisses.{part_behind}
use Rattle.tmem_explain.proofs.amiss.Amiss.of.Goals as goal

pub returns-in_default : goal.returns-in_default
returns-in_default c = λ d is. record {
  place = is.place;
  there = is.there;
  is_amiss = subst (λ scope. IsWrong scope c.args.wrong.why is.place) (part_behind c.args.wrong.steps.items) is.is_wrong;
}
