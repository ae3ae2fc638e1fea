use Rattle.std.proofs.Common.{◌≡◌, ℕ, false, List}
use Rattle.serde_json.specs.Find.{get_member}
use Rattle.serde_json.specs.View.{members_view}
use Rattle.tmem_fault.specs.Name.{has_name}
use Rattle.tmem_requests.proofs.Members.{aside}
use Rattle.tmem_requests.proofs.keys.asked_in.Given as goal

abbrev pub invariant-loop-key : goal.invariant-loop-key
invariant-loop-key l =
    (k : List ℕ) → has_name aside k ≡ false → get_member k (members_view l.initial.key-iterator) ≡ get_member k (members_view l.key-iterator)
