use Rattle.std.proofs.Common.{rules, ◌≡◌, ◌==◌, ◌<◌, Some, None, position, length, take, arith, w64}
use Rattle.std.proofs.lemmas.Int.{to_z-of_z}
use Rattle.std.proofs.lemmas.List.{length-take-le}
use Rattle.tmem_effect.proofs.Placing.{take-set-with_write, take-more-with_write}
use Rattle.tmem_effect.proofs.WritesLaws.{is_some-value_in-none, AreWrites-with_write}
use Rattle.tmem_effect.proofs.writes.Writes.put.Goals as goal

pub invariant_of-self : goal.invariant_of-self
invariant_of-self c =
    let w = c.self.inside in
    let made : length w.items ≡ 64 = search rules in
    let found : position (λ v. c.args.var == v.0) (take w.len w.items) ≡ Some c.in-Some.index = cc in
    let room = rw (← c.self.view_is) at c.requires in (
      rw (to_z-of_z w64 c.args.value c.ranges.value, take-set-with_write w.items w.len c.args.var c.args.value (omega arith) c.in-Some.index found)
          (AreWrites-with_write (take w.len w.items) c.args.var c.args.value room c.ranges.value c.self.invariant.0),
      c.self.invariant.1,
    )

-- a variable that stands nowhere finds room
pub bounds-self-inside-self-inside : goal.bounds-self-inside-self-inside
bounds-self-inside-self-inside c =
    let w = c.self.inside in
    let made : length w.items ≡ 64 = search rules in
    let none : position (λ v. c.args.var == v.0) (take w.len w.items) ≡ None = cc in
    let room = rw (← c.self.view_is) at c.requires in
    omega (arith, room (is_some-value_in-none (take w.len w.items) c.args.var none), length-take-le w.len w.items (omega arith))

pub invariant_of-self-in-None : goal.invariant_of-self-in-None
invariant_of-self-in-None c =
    let w = c.self.inside in
    let made : length w.items ≡ 64 = search rules in
    let none : position (λ v. c.args.var == v.0) (take w.len w.items) ≡ None = cc in
    let room = rw (← c.self.view_is) at c.requires in
    let below : w.len < 64 = omega (arith, room (is_some-value_in-none (take w.len w.items) c.args.var none), length-take-le w.len w.items (omega arith)) in (
      rw (to_z-of_z w64 c.args.value c.ranges.value, take-more-with_write w.items w.len c.args.var c.args.value (omega arith) none (omega arith))
          (AreWrites-with_write (take w.len w.items) c.args.var c.args.value room c.ranges.value c.self.invariant.0),
      omega arith,
    )

pub returns-in-Some : goal.returns-in-Some
returns-in-Some c =
    let w = c.self.inside in
    let made : length w.items ≡ 64 = search rules in
    let found : position (λ v. c.args.var == v.0) (take w.len w.items) ≡ Some c.in-Some.index = cc in
    rw (to_z-of_z w64 c.args.value c.ranges.value, ← c.self.view_is) (take-set-with_write w.items w.len c.args.var c.args.value (omega arith) c.in-Some.index found)

pub returns-in-None : goal.returns-in-None
returns-in-None c =
    let w = c.self.inside in
    let made : length w.items ≡ 64 = search rules in
    let none : position (λ v. c.args.var == v.0) (take w.len w.items) ≡ None = cc in
    let room = rw (← c.self.view_is) at c.requires in
    let below : w.len < 64 = omega (arith, room (is_some-value_in-none (take w.len w.items) c.args.var none), length-take-le w.len w.items (omega arith)) in
    rw (to_z-of_z w64 c.args.value c.ranges.value, ← c.self.view_is) (take-more-with_write w.items w.len c.args.var c.args.value (omega arith) none (omega arith))
