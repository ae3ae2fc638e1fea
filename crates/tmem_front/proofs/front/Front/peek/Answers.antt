use Rattle.std.proofs.Common.{ℤ, ap, sym, ◌∙◌, Some, rules, w64}
use Rattle.std.proofs.Math.Facts.{to_z-of_z}
use Rattle.tmem_front.proofs.front.Front.peek.Goals as goal

pub returns : goal.returns
returns g c =
    ∣ (c.deref.result.now.committed, c.peek.ensures.sound, c.peek.ensures.value ∙ ap (λ (n : ℤ). Some n) (sym (to_z-of_z {w = w64} {z = c.peek.result} (search (rules, c.peek.type_inv))))) ∣₁
