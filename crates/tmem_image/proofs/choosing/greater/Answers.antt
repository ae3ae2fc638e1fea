use Rattle.std.proofs.Common.{ℕ, Option, Some, ◌∙◌, ap, subst}
use Rattle.tmem_record.specs.Layout.{image_at}
use Rattle.tmem_image.specs.Image.{HasHead}
use Rattle.tmem_image.proofs.Choices.{no_choice}
use Rattle.tmem_image.proofs.choosing.greater.Goals as goal

pub returns-in-Some-Some-clause-none : goal.returns-in-Some-Some-clause-none
returns-in-Some-Some-clause-none c = λ vars held first second.
    let one = subst (λ (o : Option ℕ). HasHead (image_at vars 0) o held) (c.in-Some-Some.is-0 ∙ ap (λ (k : ℕ). Some k) c.if-one-other.true) first in
    let other = subst (λ (o : Option ℕ). HasHead (image_at vars 1) o held) c.in-Some-Some.is-1 second in
    no_choice vars c.in-Some-Some.other held one other
