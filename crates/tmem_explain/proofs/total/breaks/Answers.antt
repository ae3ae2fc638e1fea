use Rattle.std.proofs.Common.{rules}
use Rattle.tmem_explain.proofs.total.breaks.Goals as goal

pub returns-in-TooDeep : goal.returns-in-TooDeep
returns-in-TooDeep c = search rules

pub returns-in-TooManyNodes : goal.returns-in-TooManyNodes
returns-in-TooManyNodes c = search rules

pub returns-in-TooManyWrites : goal.returns-in-TooManyWrites
returns-in-TooManyWrites c = search rules

pub returns-in-TooManyChecks : goal.returns-in-TooManyChecks
returns-in-TooManyChecks c = search rules

pub returns-in-BadRegister : goal.returns-in-BadRegister
returns-in-BadRegister c = search rules

pub returns-in-BadVariable : goal.returns-in-BadVariable
returns-in-BadVariable c = search rules

pub returns-in-BadStep : goal.returns-in-BadStep
returns-in-BadStep c = search rules

pub returns-in-BadArguments : goal.returns-in-BadArguments
returns-in-BadArguments c = search rules

pub returns-in-UnknownName : goal.returns-in-UnknownName
returns-in-UnknownName c = search rules

pub returns-in-TooManyRetires : goal.returns-in-TooManyRetires
returns-in-TooManyRetires c = search rules
