use Rattle.std.proofs.Common.{◌≡◌, ◌<◌, [], ℕ, List, true, false, sym, subst}
use Rattle.std.proofs.lemmas.List.Elements.{All-weaker}
use Rattle.tmem_effect.specs.Names.{has_name}
use Rattle.tmem_tentative.specs.Cursors.{outcome_of}
use Rattle.tmem_tentative.specs.Fits.{IsForVariables, IsForNames, IsEndingFor, IsWithinVariables, IsNamed}
use Rattle.tmem_tentative.specs.declared.attempt.Ending.{Ending}
use Rattle.tmem_tentative.specs.declared.attempt.Ending.TheVariants.{Normal, Retry, Abort, Broken}
use Rattle.tmem_bench.proofs.on_core.settle.Goals as goal

pub peek-requires : goal.peek-requires
peek-requires g c =
    let vars = c.args.vars in
    let within = subst (λ p. IsWithinVariables vars (outcome_of c.advance.new.self p)) c.in-Need.is (c.in_ok-var.ensures.within vars c.requires.variables) in
    subst (λ (n : ℕ). c.in-Need.var < n) (sym c.loop.invariant.0) within

-- no name is one of none, so it asks for no test
pub unreachable-requires : goal.unreachable-requires
unreachable-requires g c =
    let no : false ≡ true = subst (λ p. IsNamed [] (outcome_of c.advance.new.self p)) c.in-Probe.is (c.in_ok-var.ensures.named [] c.requires.names) in
    cc

pub decide-requires-clause-variables : goal.decide-requires-clause-variables
decide-requires-clause-variables g c =
    let vars = c.args.vars in
    let ended = subst (λ p. IsWithinVariables vars (outcome_of c.advance.new.self p)) c.in-Ended.is (c.in_ok-var.ensures.within vars c.requires.variables) in
    subst (λ (n : ℕ). IsForVariables n c.attempt.result.now) (sym c.loop.invariant.0) (subst (IsForVariables vars) (sym c.attempt.ensures.attempt) ended)

-- it names none
unnamed : (names : List (List ℕ)) (name : List ℕ) → has_name [] name ≡ true → has_name names name ≡ true
unnamed names name has = absurd cc

ending_unnamed : (names : List (List ℕ)) (end : Ending) → IsEndingFor [] end → IsEndingFor names end
ending_unnamed names Normal is = tt
ending_unnamed names Retry is = tt
ending_unnamed names (Abort code) is = tt
ending_unnamed names (Broken name) is = unnamed names name is

pub decide-requires-clause-names : goal.decide-requires-clause-names
decide-requires-clause-names g c =
    let ended = subst (λ p. IsNamed [] (outcome_of c.advance.new.self p)) c.in-Ended.is (c.in_ok-var.ensures.named [] c.requires.names) in
    let named = subst (IsForNames []) (sym c.attempt.ensures.attempt) ended in
    record {
      proposed = All-weaker _ _ (unnamed _) _ named.proposed;
      retired = All-weaker _ _ (unnamed _) _ named.retired;
      apart = named.apart;
      ending = ending_unnamed _ _ named.ending;
    }

pub loop-init : goal.loop-init
loop-init g c = (c.requires.sized, λ m stated. c.in_ok-restart.ensures.stands m)

pub advance-requires-clause-steps : goal.advance-requires-clause-steps
advance-requires-clause-steps g c = c.requires.steps

pub advance-requires-clause-stands : goal.advance-requires-clause-stands
advance-requires-clause-stands g c = c.loop.invariant.1

pub loop-preserved : goal.loop-preserved
loop-preserved g c = (c.loop.invariant.0, λ m stated. c.give.ensures.stands m c.args.plan.now (c.advance.ensures.stands m stated))
