use Rattle.tmem_core.proofs.NamesLeft.{none_left}
use Rattle.tmem_core.proofs.serial.names_only_grow.Goals as goal

pub returns : goal.returns
returns c = none_left
