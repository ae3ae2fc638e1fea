use Rattle.std.proofs.Common.{◌≡◌, ◌-◌, drop}
use Rattle.tmem_desk.specs.Leading.{first_puts, is_puts}
use Rattle.tmem_desk.proofs.LeadingPuts.{all_puts, leading}
use Rattle.tmem_desk.proofs.leading.+puts_left.Given as goal

-- the trees so far are Puts alone, and are counted
abbrev pub invariant-loop-t : goal.invariant-loop-t
invariant-loop-t l =
    let rest = drop l.t-index l.t-items in
    record {
      left : l.left - leading rest ≡ l.many - first_puts l.tx;
      puts : all_puts rest ≡ is_puts l.tx;
    }
