-- No number stands among the own effects of two passes.
use Rattle.std.proofs.Common.{◌≡◌, ℕ, ◌-◌, Some, sym, ap, ◌∙◌}
use mathlib.Core.Option.{some}
use lib.ListN.{get_elem?}
use Rattle.atomic_table.specs.Table.{State}
use Rattle.tmem_effect.specs.declared.effect.Effect.{Effect}
use Rattle.tmem_spine.specs.declared.view.MarkedEffect.{MarkedEffect}
use Rattle.tmem_spine.specs.declared.view.Role.TheVariants.{Pass}
use Rattle.tmem_spine.specs.declared.view.SeatView.{SeatView}
use Rattle.tmem_spine.specs.History.{marked_effect, Has}
use Rattle.tmem_spine.specs.Rule.{KeepsHistory}
use Rattle.tmem_spine.proofs.Prefixes.{get_more}
use Rattle.tmem_spine.proofs.Owning.{owned_at}

some_is : (x y : MarkedEffect) → Some x ≡ Some y → x ≡ y
some_is x y e = cc e

pub number_of_one : (start : ℕ) (s : State ℕ SeatView) (i j : ℕ) (v w : SeatView) (n : ℕ) (e f : Effect) → KeepsHistory start s → get_elem? s.views i ≡ some v → get_elem? s.views j ≡ some w
    → v.role ≡ Pass → w.role ≡ Pass → Has v.own n e → Has w.own n f → i ≡ j
number_of_one start s i j v w n e f kept there there' rv rw has has' =
    let h = kept.history in
    let one = kept.each i v there in
    let two = kept.each j w there' in
    let at = owned_at start v.mark v.known v.own n e (one.is_pass rv).0.1 has in
    let at' = owned_at start w.mark w.known w.own n f (two.is_pass rw).0.1 has' in
    let here = get_more v.known h.committed (n - start) (marked_effect v.mark e) one.known at.1 in
    let here' = get_more w.known h.committed (n - start) (marked_effect w.mark f) two.known at'.1 in
    let same : marked_effect v.mark e ≡ marked_effect w.mark f = some_is (marked_effect v.mark e) (marked_effect w.mark f) (sym here ∙ here') in
    kept.apart i j v w there there' rv rw (ap (λ (x : MarkedEffect). x.mark) same)
