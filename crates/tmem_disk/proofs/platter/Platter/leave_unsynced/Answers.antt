use Rattle.std.proofs.Common.{◌≡◌, ⊎_elim, ℕ, false, get_or, arith}
use Rattle.std.proofs.lemmas.Bool.{cases_lt}
use Rattle.tmem_disk.proofs.Unsynced.{unsynced_long, synced_below, synced_above}
use Rattle.tmem_disk.proofs.platter.Platter.leave_unsynced.Goals as goal

pub invariant_of-self : goal.invariant_of-self
invariant_of-self c =
    let p = c.args.self.now in
    let at = c.args.from in
    let n = c.args.count in
    let none : (i : ℕ) → get_or p.unsynced.items i false ≡ false = λ i. ⊎_elim (p.before i) (λ from. p.behind i (omega (arith, c.if-self.true, from))) (cases_lt i p.first) in
    record {
      ordered = omega arith;
      within = omega (arith, unsynced_long p.unsynced.items _ at n c.requires c.set_unsynced.ensures, c.requires);
      before = λ i below. synced_below p.unsynced.items _ at n c.requires c.set_unsynced.ensures i below (none i);
      behind = λ i above. synced_above p.unsynced.items _ at n c.requires c.set_unsynced.ensures i above (none i);
    }

pub invariant_of-self-else-self : goal.invariant_of-self-else-self
invariant_of-self-else-self c =
    let p = c.args.self.now in
    let at = c.args.from in
    let n = c.args.count in
    let low = c.min-self.ensures in
    let high = c.max-self.ensures in
    record {
      ordered = omega (arith, low, high);
      within = omega (arith, unsynced_long p.unsynced.items _ at n c.requires c.set_unsynced.ensures, c.requires, high, p.within);
      before = λ i below. synced_below p.unsynced.items _ at n c.requires c.set_unsynced.ensures i (omega (arith, low, below)) (p.before i (omega (arith, low, below)));
      behind = λ i above. synced_above p.unsynced.items _ at n c.requires c.set_unsynced.ensures i (omega (arith, high, above)) (p.behind i (omega (arith, high, above)));
    }
