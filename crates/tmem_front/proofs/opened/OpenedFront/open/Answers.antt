use Rattle.std.proofs.Common.{arith}
use Rattle.std.proofs.lemmas.Grind.{common_steps}
use Rattle.tmem_opening.specs.Held.{found_of, opening_position}
use Rattle.tmem_opening.proofs.Laws.{handed_back}
use Rattle.tmem_front.proofs.opened.OpenedFront.open.Goals as goal

pub returns-in-Err-parts-clause-refused : goal.returns-in-Err-parts-clause-refused
returns-in-Err-parts-clause-refused g c =
    let so = c.in-Ok.ensures.opened in
    (handed_back g.T.Invariants c.args.table c.args.vars c.args.slots (g.D.Disk.view c.args.disk) g.D.Disk.view c.into_disk.result _ c.into_disk.ensures so.uses so.fits.2 so.mends (opening_position c.in-Ok.opening) (found_of c.in-Ok.opening) so.found so.sound).1

pub returns-in-Err-clause-refused : goal.returns-in-Err-clause-refused
returns-in-Err-clause-refused g c = grind (arith, common_steps)

pub returns-in-Err-clause-recovers : goal.returns-in-Err-clause-recovers
returns-in-Err-clause-recovers g c = grind (arith, common_steps)

pub returns-clause-opened : goal.returns-clause-opened
returns-clause-opened g c = grind (arith, common_steps)
