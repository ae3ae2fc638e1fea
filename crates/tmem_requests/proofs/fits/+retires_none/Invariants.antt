use Rattle.std.proofs.Common.{◌≡◌, ◌↔◌, drop}
use Rattle.tmem_tree.proofs.Laws.{count_items}
use Rattle.tmem_requests.specs.Fits.{RetiresNone, retires_one_of}
use Rattle.tmem_requests.proofs.fits.+retires_none.Given as goal

abbrev pub invariant-loop-t : goal.invariant-loop-t
invariant-loop-t l = RetiresNone l.always l.tx ↔ (count_items (retires_one_of l.always) (drop l.t-index l.t-items) ≡ 0)
