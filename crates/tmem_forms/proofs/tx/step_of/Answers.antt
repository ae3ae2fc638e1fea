use Rattle.std.proofs.Common.{◌≡◌, ◌<◌, ℕ, List, ◌∷◌, [], length, slice_index_or, map, All, codes, refl, sym, ◌∙◌}
use Rattle.serde_json.specs.Data.{string}
use Rattle.serde_json.specs.View.{view}
use Rattle.tmem_builtins.specs.Steps.{step_names}
use Rattle.tmem_forms.specs.TxForms.{IsByte, natural, array_of, tagged}
use Rattle.tmem_forms.proofs.Laws.{passed_on, NoTx}
use Rattle.tmem_forms.proofs.ArrayForms.{three_same}
use Rattle.tmem_forms.proofs.Levels.{no_step, IsTx-Step, tagged_as}
use Rattle.tmem_forms.proofs.tx.step_of.Goals as goal

pub returns-in_err-index-clause-refused : goal.returns-in_err-index-clause-refused
returns-in_err-index-clause-refused c =
    passed_on ((index : ℕ) → index < length step_names → ¬ (view c.in_ok-name.name.now ≡ string (slice_index_or step_names index []))) (NoTx (tagged (codes "step") (view c.args.value.now)))
    c.from_residual-in_err-index.result c.in_err-index.field-0.0 c.from_residual-in_err-index.ensures.1 c.in_err-index.ensures.refused
    (λ none. no_step (codes "step") (view c.args.value.now) refl (λ index args out there all fits is.
    none index there (three_same _ _ _ _ _ _ (sym c.in_ok-name.ensures.ok ∙ is)).0))

pub returns-in_err-args-clause-refused : goal.returns-in_err-args-clause-refused
returns-in_err-args-clause-refused c =
    passed_on ((registers : List ℕ) → All IsByte registers → ¬ (view c.in_ok-name.registers.now ≡ array_of (map natural registers))) (NoTx (tagged (codes "step") (view c.args.value.now)))
    c.from_residual-in_err-args.result c.in_err-args.field-0.0 c.from_residual-in_err-args.ensures.1 c.in_err-args.ensures.refused
    (λ none. no_step (codes "step") (view c.args.value.now) refl (λ index args out there all fits is.
    none args all (three_same _ _ _ _ _ _ (sym c.in_ok-name.ensures.ok ∙ is)).1))

pub returns-in_err-out-clause-refused : goal.returns-in_err-out-clause-refused
returns-in_err-out-clause-refused c =
    passed_on ((n : ℕ) → IsByte n → ¬ (view c.in_ok-name.register.now ≡ natural n)) (NoTx (tagged (codes "step") (view c.args.value.now)))
    c.from_residual-in_err-out.result c.in_err-out.field-0.0 c.from_residual-in_err-out.ensures.1 c.in_err-out.ensures.refused
    (λ none. no_step (codes "step") (view c.args.value.now) refl (λ index args out there all fits is.
    none out fits (three_same _ _ _ _ _ _ (sym c.in_ok-name.ensures.ok ∙ is)).2))

pub returns-clause-ok : goal.returns-clause-ok
returns-clause-ok c =
    let body : view c.args.value.now ≡ array_of (string (slice_index_or step_names c.in_ok-index.index []) ∷ array_of (map natural c.in_ok-args.args.items) ∷ natural c.in_ok-out.out ∷ []) =
    rw (c.in_ok-name.ensures.ok, c.in_ok-index.ensures.ok.0, c.in_ok-args.ensures.ok, c.in_ok-out.ensures.ok) refl in
    tagged_as _ _ _ _ _ refl body (IsTx-Step _ _ _ c.in_ok-index.ensures.ok.1 c.in_ok-args.ensures.in_range c.in_ok-out.ensures.in_range)
