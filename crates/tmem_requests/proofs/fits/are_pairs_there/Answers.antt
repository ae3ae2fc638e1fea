use Rattle.std.proofs.Common.{ℕ, ℤ, ◌<◌, ◌≤◌, length, HoldsAt, MatchBool, subst, arith, rules, tests}
use Rattle.std.specs.List.{AllWithin}
use Rattle.std.proofs.lemmas.Iterator.{YieldsList-from_slice, cases_from_all}
use Rattle.std.proofs.lemmas.Iterator.Search.{true_from_All}
use Rattle.std.proofs.lemmas.List.Elements.{All-map, All-from_all_within}
use Rattle.tmem_requests.proofs.Each.{all_of_map}
use Rattle.tmem_requests.proofs.fits.are_pairs_there.Goals as goal

pub returns : goal.returns
returns c =
    let pairs = c.args.all.now in
    let vars = c.args.vars in
    let cases = cases_from_all _ _ c.all.result (λ (p : ℕ × ℤ). p.0 < vars) (λ p. vars ≤ p.0) c.all.ensures.ran (YieldsList-from_slice pairs cc) (λ x q k. search (rules, tests)) (λ x q k. search (rules, tests)) in (
      λ yes. All-map (λ var. var < vars) (λ (p : ℕ × ℤ). p.0) pairs (All-from_all_within (λ p. p.0 < vars) pairs
          (subst (λ b. MatchBool b (AllWithin (λ (p : ℕ × ℤ). p.0 < vars) pairs 0 (length pairs)) ((k : ℕ) × (k < length pairs) × HoldsAt (λ (p : ℕ × ℤ). vars ≤ p.0) pairs k)) yes cases)),
      λ there. true_from_All (λ (p : ℕ × ℤ). p.0 < vars) (λ p. vars ≤ p.0) c.all.result pairs (λ p below above. omega arith) cases (all_of_map (λ var. var < vars) (λ (p : ℕ × ℤ). p.0) pairs there),
    )
