use Rattle.std.proofs.Common.{◌≡◌, ℕ, true, List, map}
use Rattle.serde_json.specs.View.{members_view}
use Rattle.tmem_fault.specs.Name.{has_name}
use Rattle.tmem_forms.specs.Members.{AreAmong, member_keys}
use Rattle.tmem_shape.specs.Keys.{key_text}
use Rattle.tmem_shape.proofs.members.unknown_key.Given as goal

abbrev pub invariant-loop-key : goal.invariant-loop-key
invariant-loop-key l = record {
  known : AreAmong (map key_text l.keys) (member_keys (members_view l.key-iterator)) → AreAmong (map key_text l.keys) (member_keys (members_view l.fn.members.entries));
  among : (k : List ℕ) → has_name (member_keys (members_view l.key-iterator)) k ≡ true → has_name (member_keys (members_view l.fn.members.entries)) k ≡ true;
}
