use Rattle.tmem_image.proofs.Images.{one_image}
use Rattle.tmem_image.proofs.unique.one_image.Goals as goal

pub returns : goal.returns
returns c = one_image
