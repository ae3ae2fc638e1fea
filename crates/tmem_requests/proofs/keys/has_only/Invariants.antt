use Rattle.std.proofs.Common.{◌↔◌, map}
use Rattle.tmem_requests.proofs.Members.{Known}
use Rattle.tmem_requests.proofs.keys.has_only.Given as goal

abbrev pub invariant-loop-key : goal.invariant-loop-key
invariant-loop-key l =
    let keys = map (λ key. key.now) l.keys in
    Known keys l.initial.key-iterator ↔ Known keys l.key-iterator
