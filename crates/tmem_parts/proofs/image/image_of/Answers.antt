use Rattle.std.proofs.Common.{ℕ, List, subst}
use Rattle.tmem_image.specs.Image.{HoldsImage}
use Rattle.tmem_parts.proofs.image.image_of.Goals as goal

pub returns-in-Ok-clause-image : goal.returns-in-Ok-clause-image
returns-in-Ok-clause-image c =
    subst (λ (b : List ℕ). HoldsImage c.in-Ok.image.version c.args.layout.vars c.args.copy c.in-Ok.image.generation c.in-Ok.image.state b) c.in_ok-disk.ensures.seen (c.in-Ok.ensures.found tt)
