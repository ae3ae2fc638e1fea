use Rattle.std.proofs.Common.{◌≡◌, drop, option_to_list}
use Rattle.tmem_tentative.specs.Places.{place_at, taken_at}
use Rattle.tmem_tentative.proofs.PlaceSeq.{IsLeft}
use Rattle.tmem_tentative.proofs.walk_on.+walk_on.Given as goal

abbrev pub invariant-walk_on-loop-i : goal.invariant-walk_on-loop-i
invariant-walk_on-loop-i g l = record {
  reads : l.course.attempt.reads ≡ l.fn.course.attempt.reads;
  left : IsLeft (g.S.StoredSteps.is_stated l.steps) l.plan.signatures (taken_at l.fn.course) l.tx (place_at l.fn.course l.fn.saves) (drop l.i l.t-items) (place_at l.course l.saves) (option_to_list l.course.pending);
}
