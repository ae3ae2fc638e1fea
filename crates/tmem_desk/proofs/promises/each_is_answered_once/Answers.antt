use Rattle.std.proofs.Common.{false, ap, ◌∙◌, arith}
use Rattle.tmem_desk.specs.Desks.{DeskView}
use Rattle.tmem_desk.specs.Due.{is_id}
use Rattle.tmem_desk.proofs.Counted.{taken_due, round_due, refused_due, long_due, finished_due, closed_due}
use Rattle.tmem_desk.proofs.Losing.{steps_lose}
use Rattle.tmem_desk.proofs.promises.each_is_answered_once.Goals as goal

pub returns-clause-taken : goal.returns-clause-taken
returns-clause-taken c s id ask v w other t = taken_due (is_id other) false s id ask v w t

pub returns-clause-tried : goal.returns-clause-tried
returns-clause-tried c s v w other t = round_due (is_id other) false s v w t

pub returns-clause-long : goal.returns-clause-long
returns-clause-long c v w other t = omega (arith, long_due (is_id other) false v w t)

pub returns-clause-refused : goal.returns-clause-refused
returns-clause-refused c s text v w other t = omega (arith, refused_due (is_id other) false s text v w t)

pub returns-clause-lines : goal.returns-clause-lines
returns-clause-lines c s texts v w steps = steps_lose s texts v w steps

pub returns-clause-finished : goal.returns-clause-finished
returns-clause-finished c s v w other f = finished_due (is_id other) false s v w f

pub returns-clause-end : goal.returns-clause-end
returns-clause-end c s text v w other before after served =
    (closed_due (is_id other) false served.ran ∙ finished_due (is_id other) false s served.runs.taken served.ran served.runs.finishes, ap (λ (x : DeskView). x.waiting) served.is)
