use Rattle.std.proofs.Common.{◌≡◌, ℕ, ◌+◌, ◌≤◌, true, List, length, All, Contains, drop, take}
use Rattle.tmem_fault.specs.Distinct.{AreDistinct}
use Rattle.tmem_fault.specs.Name.{has_name}
use Rattle.tmem_tree.specs.Limits.{one_if, count, is_check, checks_name, lacks_signature}
use Rattle.tmem_tree.specs.Signatures.{names_of}
use Rattle.tmem_tree.proofs.Laws.{count_items}
use Rattle.tmem_tree.proofs.signatures.+collect.Given as goal

abbrev pub decreases-collect : goal.decreases-collect
decreases-collect l = goal.size-collect l

abbrev pub invariant-loop-t : goal.invariant-loop-t
invariant-loop-t l =
    let rest = drop l.t-index l.t-items in
    record {
      room : length l.into + count_items is_check rest ≤ length l.initial.into + count is_check l.tx;
      known : count_items (lacks_signature (names_of l.into)) (take l.t-index l.t-items) ≡ 0;
      others : count_items (lacks_signature (names_of l.signatures)) rest ≡ 0;
      kept : (name : List ℕ) → has_name (names_of l.initial.into) name ≡ true → has_name (names_of l.into) name ≡ true;
      among : All (Contains l.signatures) l.initial.into → All (Contains l.signatures) l.into;
      checked : (name : List ℕ) → one_if (has_name (names_of l.into) name) + count_items (checks_name name) rest ≤ one_if (has_name (names_of l.initial.into) name) + count (checks_name name) l.tx;
      once : AreDistinct (names_of l.initial.into) → AreDistinct (names_of l.into);
    }
