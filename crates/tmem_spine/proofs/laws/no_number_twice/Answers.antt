use Rattle.tmem_spine.proofs.Numbers.{number_of_one}
use Rattle.tmem_spine.proofs.laws.no_number_twice.Goals as goal

pub returns : goal.returns
returns c = number_of_one
