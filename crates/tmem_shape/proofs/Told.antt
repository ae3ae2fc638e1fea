-- What is told of a flaw.
use Rattle.std.proofs.Common.{◌≡◌, ℕ, List, Bor, sym, ap, ◌∙◌, subst}
use Rattle.tmem_shape.specs.Words.{shape_why_text}
use Rattle.tmem_shape.specs.declared.why.ShapeFlaw.{ShapeFlaw}

-- where this text is that of a flaw, what holds of it holds of what is told of the flaw
pub as_told : (P : List ℕ → Type 0) (why flaw : ShapeFlaw) (text words : Bor (List ℕ)) → why ≡ flaw → text ≡ words → words.now ≡ shape_why_text flaw → P text.now → P (shape_why_text why)
as_told P why flaw text words is same told has =
    subst P (ap (λ (t : Bor (List ℕ)). t.now) same ∙ told ∙ ap shape_why_text (sym is)) has
