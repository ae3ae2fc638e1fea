use Rattle.std.proofs.Common.{◌≡◌, ◌+◌, ℕ, length, ap, sym, ◌∙◌, arith, not, count_by, List}
use Rattle.std.proofs.lemmas.Bool.{leb-true, le-leb}
use Rattle.tmem_effect.specs.Names.{has_name, with_names, without_names}
use Rattle.tmem_effect.proofs.Laws.{length-with_names}
use Rattle.tmem_effect.proofs.Laws.{length-without_names, length-without_names-le}
use Rattle.tmem_state.proofs.state.State.has_room_for.Goals as goal

pub returns : goal.returns
returns c =
    let held = c.args.self.now.names in
    let retired = c.args.effect.now.retired in
    let names = c.args.effect.now.names in
    let left : c.count_others-kept.result ≡ count_by (λ (m : List ℕ). not (has_name retired m)) held = rw (c.as_slice-retired.ensures.names, c.names-held.ensures.names) at c.count_others-kept.ensures in
    let fresh : c.count_new.result ≡ count_by (λ (m : List ℕ). not (has_name (without_names held retired) m)) names = rw (c.names-held.ensures.names, c.as_slice-retired.ensures.names, c.as_slice.ensures.names) at c.count_new.ensures in
    let kept : length (without_names held retired) ≡ c.count_others-kept.result = length-without_names held retired ∙ sym left in
    let all : length (with_names (without_names held retired) names) ≡ length (without_names held retired) + c.count_new.result = length-with_names (without_names held retired) names c.as_slice.ensures.are_checks.distinct ∙ ap (λ (n : ℕ). length (without_names held retired) + n) (sym fresh) in
    let few = length-without_names-le held retired in
    (λ yes. let room = leb-true _ _ yes in omega (arith, room, all, kept, few, c.names-held.ensures.are_registered.few), λ fits. le-leb _ _ (omega (arith, fits, all, kept)))
