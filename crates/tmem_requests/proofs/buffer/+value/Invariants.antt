use Rattle.std.proofs.Common.{◌+◌, ◌*◌, length}
use Rattle.tmem_requests.proofs.Spelled.{ItemsSoFar, MembersSoFar}
use Rattle.tmem_requests.proofs.buffer.+value.Given as goal

abbrev pub decreases-value_in : goal.decreases-value_in
decreases-value_in l = 2 * l.depth + 1

abbrev pub decreases-array_in : goal.decreases-array_in
decreases-array_in l = 2 * l.depth

abbrev pub decreases-object_in : goal.decreases-object_in
decreases-object_in l = 2 * l.depth

abbrev pub invariant-array_in-items : goal.invariant-array_in-items
invariant-array_in-items l = ItemsSoFar l.inner l.initial.reader l.items.items l.reader

abbrev pub decreases-array_in-items : goal.decreases-array_in-items
decreases-array_in-items l = length l.reader

abbrev pub invariant-object_in-members : goal.invariant-object_in-members
invariant-object_in-members l = MembersSoFar l.inner l.initial.reader l.members.entries l.reader

abbrev pub decreases-object_in-members : goal.decreases-object_in-members
decreases-object_in-members l = length l.reader
