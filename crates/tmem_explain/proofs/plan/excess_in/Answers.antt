use Rattle.std.proofs.Common.{rules}
use Rattle.tmem_explain.proofs.plan.excess_in.Goals as goal

pub returns-in_ok-bad_register_in-in-BadRegister-clause-over :
    goal.returns-in_ok-bad_register_in-in-BadRegister-clause-over
returns-in_ok-bad_register_in-in-BadRegister-clause-over c = search rules

pub returns-in_ok-variable_in-in-BadVariable-clause-over :
    goal.returns-in_ok-variable_in-in-BadVariable-clause-over
returns-in_ok-variable_in-in-BadVariable-clause-over c = search rules

pub returns-in_ok-step_in-in-BadStep-clause-over :
    goal.returns-in_ok-step_in-in-BadStep-clause-over
returns-in_ok-step_in-in-BadStep-clause-over c = search rules

pub returns-in_ok-arguments_in-in-BadArguments-clause-over :
    goal.returns-in_ok-arguments_in-in-BadArguments-clause-over
returns-in_ok-arguments_in-in-BadArguments-clause-over c = search rules

pub returns-in-UnknownName-clause-over : goal.returns-in-UnknownName-clause-over
returns-in-UnknownName-clause-over c = search rules

pub returns-in-TooManyNodes-clause-over : goal.returns-in-TooManyNodes-clause-over
returns-in-TooManyNodes-clause-over c = search rules

pub returns-in-TooManyWrites-clause-over : goal.returns-in-TooManyWrites-clause-over
returns-in-TooManyWrites-clause-over c = search rules

pub returns-in-TooManyChecks-clause-over : goal.returns-in-TooManyChecks-clause-over
returns-in-TooManyChecks-clause-over c = search rules

pub returns-in-TooManyRetires-clause-over : goal.returns-in-TooManyRetires-clause-over
returns-in-TooManyRetires-clause-over c = search rules
