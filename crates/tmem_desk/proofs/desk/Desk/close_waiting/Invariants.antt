use Rattle.std.proofs.Common.{◌≡◌, ◌++◌, []}
use Rattle.tmem_desk.specs.Held.{asking, desk_view}
use Rattle.tmem_desk.specs.Serving.{closed, tells}
use Rattle.tmem_desk.proofs.desk.Desk.close_waiting.Given as goal

-- those so far were told
abbrev pub invariant-loop-one : goal.invariant-loop-one
invariant-loop-one g l = record {
  parts : l.yielded ++ l.one-iterator.rest.items ≡ l.fn.self.waiting.items;
  told : desk_view l.self ≡ tells (record (desk_view l.fn.self) { waiting = [] }) (closed (asking l.yielded));
}
