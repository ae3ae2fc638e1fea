use Rattle.std.proofs.Common.{◌≡◌, ℕ, Some, Result, Ok, Err, IfOk, option_map, subst, sym}
use Rattle.tmem.specs.Commands.{IsMadeAt}
use Rattle.tmem_run.specs.Stored.{IsMade}
use Rattle.tmem.proofs.count.count_on.Goals as goal

-- what holds in any case does of a value that is answered
ok_of : {T E : Type 0} (P : Type 0) (r : Result T E) → P → IfOk r (λ _. P)
ok_of P (Ok x) so = so
ok_of P (Err e) so = tt

pub returns-in_ok-made-in-Some-clause-made : goal.returns-in_ok-made-in-Some-clause-made
returns-in_ok-made-in-Some-clause-made g c =
    let disk = c.in_ok-made-in-Some.made.0 in
    let blank = c.in_ok-made-in-Some.made.1.value in
    let layout = c.in_ok-layout.layout in
    let path : c.args.path ≡ Some c.in-Some.path = cc in
    let made = subst (λ (n : ℕ). IsMade n _ blank disk) c.in_ok-layout.ensures.vars (subst (λ (n : ℕ). IsMade layout.vars n blank disk) c.in_ok-layout.ensures.slots c.in_ok-made-in-Some.ensures.made) in
    ok_of _ c.count_up-in-Some.result (subst (λ p. IsMadeAt (option_map (λ text. text.now) p)) (sym path) (blank, disk, made))
