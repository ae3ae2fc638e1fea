use Rattle.std.proofs.Common.{◌≤◌, drop, length, ap, ◌∙◌, arith}
use Rattle.tmem_core.proofs.Rings.{length-ring, ring-later, IsRing-later}
use Rattle.tmem_core.proofs.waiting.Waiting.drop_oldest.Goals as goal

pub invariant_of-self : goal.invariant_of-self
invariant_of-self c =
    let w = c.self.inside in
    let held = length-ring w.effects.items _ w.start w.len c.self.invariant in
    let fits : c.args.many ≤ w.len = omega (arith, c.requires, held, ap length c.self.view_is) in
    IsRing-later w.effects.items _ w.start w.len c.self.invariant c.args.many fits

pub returns : goal.returns
returns c =
    let w = c.self.inside in
    let held = length-ring w.effects.items _ w.start w.len c.self.invariant in
    let fits : c.args.many ≤ w.len = omega (arith, c.requires, held, ap length c.self.view_is) in
    ring-later w.effects.items _ w.start w.len c.self.invariant c.args.many fits ∙ ap (drop c.args.many) c.self.view_is
