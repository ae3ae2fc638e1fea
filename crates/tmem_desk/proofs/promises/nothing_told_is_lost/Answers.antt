use Rattle.std.proofs.Common.{◌≡◌, ap, sym, subst}
use Rattle.std.specs.Prelude.{All}
use Rattle.std.specs.Io.KnownBytes.{Appends}
use Rattle.tmem_spine.specs.History.{count}
use Rattle.tmem_spine.specs.Views.{PassRoleView}
use Rattle.tmem_desk.specs.Desks.{DeskView}
use Rattle.tmem_desk.specs.Durable.{TellsAmong}
use Rattle.tmem_desk.specs.Failing.{PrintsBeginning}
use Rattle.tmem_desk.specs.Serving.{with_closed}
use Rattle.tmem_desk.proofs.Lasting.{nothing_told, texts_told, last_taken_told, finished_told, closed_told, stopped_told}
use Rattle.tmem_desk.proofs.Knowing.{text_keeps, next_keeps, finished_keeps}
use Rattle.tmem_desk.proofs.promises.nothing_told_is_lost.Goals as goal

pub returns-clause-pieces : goal.returns-clause-pieces
returns-clause-pieces c s text held v w before after served none =
    let taken = texts_told s served.runs.takes.texts v served.runs.taken (nothing_told s v none) served.runs.takes.takes in
    let pass : w.pass ≡ served.ran.pass = ap (λ (x : DeskView). x.pass) served.is in
    subst (λ (p : PassRoleView). All (TellsAmong (count s.start p.seen)) served.ran.told) (sym pass) (finished_told s served.runs.taken served.ran taken served.runs.finishes)

pub returns-clause-end : goal.returns-clause-end
returns-clause-end c s text v w before after served none =
    let taken = last_taken_told s text v served.runs.taken (nothing_told s v none) served.runs.takes in
    let pass : w.pass ≡ served.ran.pass = ap (λ (x : DeskView). x.pass) served.is in
    subst (λ (p : PassRoleView). All (TellsAmong (count s.start p.seen)) (with_closed served.ran).told) (sym pass)
    (closed_told (count s.start served.ran.pass.seen) served.ran (finished_told s served.runs.taken served.ran taken served.runs.finishes))

pub returns-clause-ran : goal.returns-clause-ran
returns-clause-ran c s text held v ran runs none = finished_told s runs.taken ran (texts_told s runs.takes.texts v runs.taken (nothing_told s v none) runs.takes.takes) runs.finishes

pub returns-clause-ran_end : goal.returns-clause-ran_end
returns-clause-ran_end c s text v w so none =
    let taken = last_taken_told s text v so.runs.taken (nothing_told s v none) so.runs.takes in
    subst (λ (d : DeskView). All (TellsAmong (count s.start d.pass.seen)) d.told) (sym so.is)
    (closed_told (count s.start so.ran.pass.seen) so.ran (finished_told s so.runs.taken so.ran taken so.runs.finishes))

pub returns-clause-stopped : goal.returns-clause-stopped
returns-clause-stopped c s texts mid w fault before after told = stopped_told s texts mid w fault (Appends before after) told

pub returns-clause-stopped_output : goal.returns-clause-stopped_output
returns-clause-stopped_output c s texts mid w fault before after told = stopped_told s texts mid w fault (PrintsBeginning (Appends before after)) told

pub returns-clause-lines : goal.returns-clause-lines
returns-clause-lines c s text v w t = text_keeps s text v w t

pub returns-clause-turns : goal.returns-clause-turns
returns-clause-turns c s v w t = next_keeps s v w t

pub returns-clause-finished : goal.returns-clause-finished
returns-clause-finished c s v w f = finished_keeps s v w f
