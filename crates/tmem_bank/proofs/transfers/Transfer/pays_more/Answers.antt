use Rattle.tmem_bank.proofs.transfers.Transfer.pays_more.Goals as goal

pub returns-clause-steps : goal.returns-clause-steps
returns-clause-steps c = λ arities fits. c.set_number-2.ensures.steps arities (c.set_number.ensures.steps arities fits)

pub returns-clause-variables : goal.returns-clause-variables
returns-clause-variables c = λ vars fits. c.set_number-2.ensures.variables vars (c.set_number.ensures.variables vars fits)

pub returns-clause-names : goal.returns-clause-names
returns-clause-names c = λ names fits. c.set_number-2.ensures.names names (c.set_number.ensures.names names fits)
