use Rattle.std.proofs.lemmas.List.{drop_all}
use Rattle.std.proofs.Common.{arith}
use Rattle.tmem_tentative.proofs.path.Path.clear.Goals as goal

pub returns : goal.returns
returns c = drop_all 32 c.self.inside.items (omega arith)
