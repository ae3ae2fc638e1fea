use Rattle.std.proofs.Common.{◌≡◌, All}
use Rattle.serde_json.specs.View.{members_view}
use Rattle.tmem_shape.specs.Shapes.{IsVariableNamed}
use Rattle.tmem_shape.proofs.Named.{followed}
use Rattle.tmem_shape.proofs.names.named_of.Given as goal

abbrev pub invariant-loop-key : goal.invariant-loop-key
invariant-loop-key l = record {
  read : members_view l.fn.members.entries ≡ followed l.names.items (members_view l.key-iterator);
  named : All (IsVariableNamed l.vars) l.names.items;
}
