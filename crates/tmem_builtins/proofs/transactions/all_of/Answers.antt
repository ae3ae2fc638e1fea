use Rattle.tmem_builtins.proofs.Sequences.{run-Seq, numbers-Seq}
use Rattle.tmem_builtins.proofs.transactions.all_of.Goals as goal

pub returns-clause-runs : goal.returns-clause-runs
returns-clause-runs c = λ steps tests view. run-Seq steps tests c.args.parts view

pub returns-clause-numbers : goal.returns-clause-numbers
returns-clause-numbers c = numbers-Seq c.args.parts
