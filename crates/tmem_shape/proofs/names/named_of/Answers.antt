use Rattle.std.proofs.Common.{◌≡◌, ◌<◌, ℕ, All, string_bytes, sym, ap, ◌∙◌, subst}
use Rattle.std.proofs.lemmas.List.Elements.{All-push}
use Rattle.serde_json.specs.Data.{member}
use Rattle.serde_json.specs.View.{view, members_view}
use Rattle.tmem_forms.specs.TxForms.{natural}
use Rattle.tmem_shape.specs.Shapes.{IsVariableNamed, IsVariableName, names_form}
use Rattle.tmem_shape.proofs.Named.{Names, followed, followed-more, followed-none, no_names_at}
use Rattle.tmem_shape.proofs.Objects.{Entries}
use Rattle.tmem_shape.proofs.Refusals.{no_value, passed_on}
use Rattle.tmem_shape.proofs.names.named_of.Goals as goal

pub returns-in_err-var-clause-refused : goal.returns-in_err-var-clause-refused
returns-in_err-var-clause-refused c =
    let ns = c.loop-key.names.items in
    let name = c.as_str.result.now in
    let key = string_bytes c.in-Some.key.now in
    let d = view c.in-Some.value.now in
    let ms = members_view c.args.members.now.entries in
    let rest = members_view c.next.new.self in
    let read : ms ≡ followed ns (member key d rest) = c.loop-key.invariant.read ∙ ap (λ (es : Entries). followed ns (members_view es)) c.in-Some.ensures.steps in
    passed_on ((var : ℕ) → IsVariableName name → var < c.args.vars → ¬ (d ≡ natural var)) ((names : Names) → All (IsVariableNamed c.args.vars) names → ¬ (ms ≡ names_form names))
    c.from_residual-in_err-var.result c.in_err-var.field-0.0 c.from_residual-in_err-var.ensures.1 c.in_err-var.ensures.refused
    (λ none names all same.
    no_names_at c.args.vars ns key d rest (λ var is below. none var (subst IsVariableName (sym c.as_str.ensures.value) is) below) names all (sym read ∙ same))

pub loop-key-preserved : goal.loop-key-preserved
loop-key-preserved c =
    let ns = c.loop-key.names.items in
    let key = string_bytes c.in-Some.key.now in
    let d = view c.in-Some.value.now in
    let rest = members_view c.next.new.self in
    let name = c.in_ok-clone.field-0 in
    let var = c.in_ok-var.var in
    let named : string_bytes name ≡ key = c.in_ok-clone.ensures.cases in
    let is : IsVariableNamed c.args.vars (name, var) = record { name = subst IsVariableName (c.as_str.ensures.value ∙ sym named) c.in_ok-var.ensures.fits.0; below = c.in_ok-var.ensures.fits.1 } in
    record {
      read = c.loop-key.invariant.read ∙ ap (λ (es : Entries). followed ns (members_view es)) c.in-Some.ensures.steps
          ∙ followed-more ns key d rest name var named c.in_ok-var.ensures.ok ∙ ap (λ (ms : Names). followed ms rest) (sym c.in_ok-push.ensures.items);
      named = subst (All (IsVariableNamed c.args.vars)) (sym c.in_ok-push.ensures.items) (All-push (IsVariableNamed c.args.vars) ns (name, var) c.loop-key.invariant.named is);
    }

pub returns-clause-ok : goal.returns-clause-ok
returns-clause-ok c =
    let ns = c.loop-key.names.items in
    c.loop-key.invariant.read ∙ ap (λ (es : Entries). followed ns (members_view es)) c.in-None.ensures.steps.0 ∙ followed-none ns

pub returns-in_err-names-clause-ok : goal.returns-in_err-names-clause-ok
returns-in_err-names-clause-ok c = no_value _ _ c.from_residual.result c.from_residual.ensures.1

pub returns-in_err-names-clause-named : goal.returns-in_err-names-clause-named
returns-in_err-names-clause-named c = no_value _ _ c.from_residual.result c.from_residual.ensures.1

pub returns-in_err-var-clause-ok : goal.returns-in_err-var-clause-ok
returns-in_err-var-clause-ok c = no_value _ _ c.from_residual-in_err-var.result c.from_residual-in_err-var.ensures.1

pub returns-in_err-var-clause-named : goal.returns-in_err-var-clause-named
returns-in_err-var-clause-named c = no_value _ _ c.from_residual-in_err-var.result c.from_residual-in_err-var.ensures.1

pub returns-in_err-clone-clause-ok : goal.returns-in_err-clone-clause-ok
returns-in_err-clone-clause-ok c = no_value _ _ c.from_residual-in_err-clone.result c.from_residual-in_err-clone.ensures.1

pub returns-in_err-clone-clause-named : goal.returns-in_err-clone-clause-named
returns-in_err-clone-clause-named c = no_value _ _ c.from_residual-in_err-clone.result c.from_residual-in_err-clone.ensures.1

pub returns-in_err-push-clause-ok : goal.returns-in_err-push-clause-ok
returns-in_err-push-clause-ok c = no_value _ _ c.from_residual-in_err-push.result c.from_residual-in_err-push.ensures.1

pub returns-in_err-push-clause-named : goal.returns-in_err-push-clause-named
returns-in_err-push-clause-named c = no_value _ _ c.from_residual-in_err-push.result c.from_residual-in_err-push.ensures.1
