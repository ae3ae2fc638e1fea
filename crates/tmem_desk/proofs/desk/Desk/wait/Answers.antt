use Rattle.std.proofs.Common.{w64, refl, arith}
use Rattle.std.proofs.lemmas.Int.{to_z-of_z}
use Rattle.std.proofs.lemmas.Result.{on_ok_weaker}
use Rattle.tmem_desk.specs.Held.{asked, desk_view}
use Rattle.tmem_desk.proofs.Lists.{waits_behind_at, waits_full_at}
use Rattle.tmem_desk.proofs.desk.Desk.wait.Goals as goal

pub returns-then-len-ge-MOST_WAITING-clause-ok : goal.returns-then-len-ge-MOST_WAITING-clause-ok
returns-then-len-ge-MOST_WAITING-clause-ok g c =
    on_ok_weaker c.tell.result (waits_full_at _ c.args.self.now.waiting.items c.args.id _ (asked c.args.held) (desk_view c.args.self.now) (desk_view c.tell.new.self) (to_z-of_z w64 c.args.id c.ranges.id) refl (omega arith)) c.tell.ensures.ok

pub returns-clause-ok : goal.returns-clause-ok
returns-clause-ok g c = waits_behind_at _ c.args.self.now.waiting.items c.push_back.new.self.items _ c.args.id (asked c.args.held) (desk_view c.args.self.now) _ (to_z-of_z w64 c.args.id c.ranges.id) refl refl (omega arith) c.in_ok-push_back.ensures.items refl
