use Rattle.std.proofs.Common.{◌+◌, ◌%◌, ◌<◌, ◌^◌, ◌≤◌, List, length, inl, inr, ap, sym, ◌∙◌, subst, arith, vec_capacity}
use Rattle.std.proofs.lemmas.Bool.{cases_lt}
use Rattle.tmem_effect.specs.declared.effect.Effect.{Effect}
use Rattle.tmem_core.specs.Ring.{IsRing}
use Rattle.tmem_core.proofs.Windows.{window}
use Rattle.tmem_core.proofs.Rings.{length-ring, ring-there, ring-made, IsRing-there, IsRing-made}
use Rattle.tmem_core.proofs.waiting.Waiting.push.Goals as goal

pub invariant_of-self : goal.invariant_of-self
invariant_of-self c =
    let w = c.self.inside in
    let held = length-ring w.effects.items _ w.start w.len c.self.invariant in
    let room : w.len < 256 = omega (arith, c.requires, held, ap length c.self.view_is) in
    let wide : 2 ^ 8 ≤ vec_capacity c.fill.new.entries = omega (arith, c.self.invariant.room, c.fill.ensures.room) in
    elim (cases_lt ((w.start + w.len) % 256) (length w.effects.items)) [
      | inl there ↦ subst (λ (xs : List Effect). IsRing xs (vec_capacity c.fill.new.entries) w.start (w.len + 1)) (sym (c.fill.ensures.there there))
          (IsRing-there w.effects.items _ w.start w.len c.self.invariant c.args.effect.now _ room there wide)
      | inr none ↦ subst (λ (xs : List Effect). IsRing xs (vec_capacity c.fill.new.entries) w.start (w.len + 1)) (sym (c.fill.ensures.made none))
          (IsRing-made w.effects.items _ w.start w.len c.self.invariant c.args.effect.now _ room none wide)
    ]

pub returns : goal.returns
returns c =
    let w = c.self.inside in
    let held = length-ring w.effects.items _ w.start w.len c.self.invariant in
    let room : w.len < 256 = omega (arith, c.requires, held, ap length c.self.view_is) in
    rw (← c.self.view_is) (elim (cases_lt ((w.start + w.len) % 256) (length w.effects.items)) [
      | inl there ↦ ap (window w.start (w.len + 1)) (c.fill.ensures.there there) ∙ ring-there w.effects.items _ w.start w.len c.self.invariant c.args.effect.now room there
      | inr none ↦ ap (window w.start (w.len + 1)) (c.fill.ensures.made none) ∙ ring-made w.effects.items _ w.start w.len c.self.invariant c.args.effect.now room none
    ])
