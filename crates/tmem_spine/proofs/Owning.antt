-- A pass's own effects, once it knows more.
use Rattle.std.proofs.Common.{◌≡◌, ℕ, zero, suc, ◌-◌, ◌<◌, ◌≤◌, List, [], ◌∷◌, ◌++◌, get_or, Some, slice_get, subst, arith}
use Rattle.std.proofs.lemmas.List.Elements.{All-push}
use Rattle.std.proofs.lemmas.List.Quantifiers.{all_pairs_push}
use Rattle.tmem_effect.specs.Prefix.{IsPrefix}
use Rattle.tmem_effect.specs.declared.effect.Effect.{Effect}
use Rattle.tmem_effect.proofs.Laws.{IsPrefix-trans}
use Rattle.tmem_spine.specs.declared.view.MarkedEffect.{MarkedEffect}
use Rattle.tmem_spine.specs.declared.view.SeatView.{SeatView}
use Rattle.tmem_spine.specs.History.{count, marked_effect, Has, HasAt}
use Rattle.tmem_spine.specs.Rule.{IsPass, Owns}
use Rattle.tmem_spine.proofs.Prefixes.{get_more, get_within}

pub at_more : (start : ℕ) (xs ys : List MarkedEffect) (n : ℕ) (e : MarkedEffect) → IsPrefix xs ys → HasAt start xs n e → HasAt start ys n e
at_more start xs ys n e p h = (h.0, get_more xs ys (n - start) e p h.1)

pub owns_more : (start mark : ℕ) (xs ys : List MarkedEffect) (own : List (ℕ × Effect)) → IsPrefix xs ys → Owns start mark xs own → Owns start mark ys own
owns_more start mark xs ys own p o = record {
  ascend = o.ascend;
  stand = λ k d below. at_more start xs ys (get_or own k d).0 (marked_effect mark (get_or own k d).1) p (o.stand k d below);
}

-- one effect more, behind all that the pass knew
pub owns_one : (start mark : ℕ) (xs ys : List MarkedEffect) (own : List (ℕ × Effect)) (n : ℕ) (e : Effect) → IsPrefix xs ys → count start xs ≤ n → HasAt start ys n (marked_effect mark e)
    → Owns start mark xs own → Owns start mark ys (own ++ (n, e) ∷ [])
owns_one start mark xs ys own n e p behind at o = record {
  ascend = all_pairs_push (λ (x y : ℕ × Effect). x.0 < y.0) own (n, e) o.ascend (λ k d below.
      let t = o.stand k d below in
      let within = get_within xs ((get_or own k d).0 - start) (marked_effect mark (get_or own k d).1) t.1 in
      let low = t.0 in
      omega arith);
  stand = All-push (λ (x : ℕ × Effect). HasAt start ys x.0 (marked_effect mark x.1)) own (n, e) (owns_more start mark xs ys own p o).stand at;
}

pub pass_more : (start : ℕ) (v : SeatView) (ys : List MarkedEffect) → IsPass start v → IsPrefix v.known ys → IsPass start (record v { known = ys })
pass_more start v ys is more = (IsPrefix-trans v.seen v.known ys is.0 more, owns_more start v.mark v.known ys v.own more is.1)

pub pass_one : (start : ℕ) (v : SeatView) (ys : List MarkedEffect) (n : ℕ) (e : Effect) → IsPass start v → IsPrefix v.known ys → count start v.known ≤ n → HasAt start ys n (marked_effect v.mark e)
    → IsPass start (record v { known = ys; own = v.own ++ (n, e) ∷ [] })
pass_one start v ys n e is more behind at = (IsPrefix-trans v.seen v.known ys is.0 more, owns_one start v.mark v.known ys v.own n e more behind at is.1)

get_or_is : (own : List (ℕ × Effect)) (k : ℕ) (x : ℕ × Effect) → slice_get own k ≡ Some x → get_or own k x ≡ x
get_or_is [] k x h = absurd (cc h)
get_or_is (y ∷ own) zero x h = cc h
get_or_is (y ∷ own) (suc k) x h = get_or_is own k x h

-- an effect of the pass's own stands in what it knows
pub owned_at : (start mark : ℕ) (known : List MarkedEffect) (own : List (ℕ × Effect)) (n : ℕ) (e : Effect) → Owns start mark known own → Has own n e → HasAt start known n (marked_effect mark e)
owned_at start mark known own n e o has =
    let is = get_or_is own has.0 (n, e) has.1 in
    subst (λ (x : ℕ × Effect). HasAt start known x.0 (marked_effect mark x.1)) is (o.stand has.0 (n, e) (get_within own has.0 (n, e) has.1))
