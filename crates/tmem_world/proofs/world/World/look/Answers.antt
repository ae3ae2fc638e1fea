use Rattle.std.proofs.Common.{◌≡◌, refl, ◌∙◌, ap, rules}
use Rattle.std.specs.Prelude.{Some}
use Rattle.tmem_event.specs.declared.event.Reply.TheVariants.{Looked}
use Rattle.tmem_world.specs.declared.held.Held.TheVariants.{With}
use Rattle.tmem_world.specs.Represents.{world_disk, held_of}
use Rattle.tmem_world.proofs.Points.{given, held_is, is_with, with_core, both_at, attempts_answered, looks_without, both_of_it, held_as}
use Rattle.tmem_world.proofs.world.World.look.Goals.{in_default-via-in-Some+in_default, in_default-via-in_default}
use Rattle.tmem_world.proofs.world.World.look.Goals as goal

pub returns-in-Some-With : goal.returns-in-Some-With
returns-in-Some-With g c =
    let w = c.args.self.now in
    let o = c.in-Some-With.both in
    given {A = held_of w ≡ With o} (held_is w.held w.here (With o) (search rules)) (λ before.
    attempts_answered w w _ _ refl refl refl (g.met.D.Disk.is_device (world_disk w))
    (λ program means m r keeps. (m, with_core program (held_of w) m _ _ _ r.held (is_with (held_of w) o before) (ap Looked (c.durable.ensures ∙ (both_at program w m o before r).number), refl), r)) tt (λ n. refl) tt)

pub returns-in_default : goal.returns-in_default
returns-in_default g c =
    let w = c.args.self.now in
    looks_without w (λ it.
    let o = both_of_it (held_of w) it in
    let there : w.held ≡ Some (With o.0) = held_as w.held w.here (With o.0) o.1 in
    elim c.in_default.branch [
      | in_default-via-in-Some+in_default v ↦ search rules
      | in_default-via-in_default v ↦ search rules
    ]) (g.met.D.Disk.is_device (world_disk w))
