use Rattle.std.proofs.Common.{List, ℕ, subst, sym}
use Rattle.tmem_gate.specs.Gate.{IsOpenAt}
use Rattle.tmem_init.proofs.Whole.{content_open}
use Rattle.tmem_init.proofs.making.make_in_place.Goals as goal

pub place_in-requires : goal.place_in-requires
place_in-requires g c =
    let open_now = content_open c.args.layout.vars c.args.layout.slots c.args.always.now c.in_ok-content.content.items c.in_ok-content.ensures in
    subst (λ (bytes : List ℕ). IsOpenAt 0 bytes) (sym c.deref.ensures.value) open_now
