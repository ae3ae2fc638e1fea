use Rattle.tmem_image.proofs.Choices.{one_choice}
use Rattle.tmem_image.proofs.unique.one_choice.Goals as goal

pub returns : goal.returns
returns c = one_choice
