use Rattle.std.proofs.Common.{◌≡◌, ◌∙◌, ℕ, All, List, subst}
use Rattle.tmem_disk.specs.Disk.{DeviceView}
use Rattle.tmem_init.specs.Content.{IsNewStore}
use Rattle.tmem_shape.specs.Shapes.{CanHold, IsShapeText}
use Rattle.tmem_shape.specs.declared.shape.StoreShape.{StoreShape}
use Rattle.tmem.specs.Made.{IsStoreOf, always_in}
use Rattle.tmem.proofs.init.make_of.Goals as goal
use Rattle.tmem.proofs.init.make_of.Goals.{then-is_in_place+in_ok-made, else-is_in_place+in_ok-made-2}

-- a new store with what a shape says is one of that shape
is_store_of : (text : List ℕ) (shape : StoreShape) (vars slots : ℕ) (names : List (List ℕ)) (d : DeviceView) → IsShapeText shape text → All CanHold shape.invariants.items → vars ≡ shape.vars → slots ≡ shape.slots → names ≡ always_in shape.invariants.items → IsNewStore vars slots names d → IsStoreOf text d
is_store_of text shape vars slots names d is hold many long same made =
    let with_names = subst (λ (x : List (List ℕ)). IsNewStore vars slots x d) same made in
    let with_slots = subst (λ (n : ℕ). IsNewStore vars n (always_in shape.invariants.items) d) long with_names in
    record { shape = shape; is = is; hold = hold; made = subst (λ (n : ℕ). IsNewStore n shape.slots (always_in shape.invariants.items) d) many with_slots }

pub returns : goal.returns
returns g c =
    let shape = c.in_ok-shape.shape in
    let layout = c.in_ok-layout.layout in
    let of : (names : List (List ℕ)) (d : DeviceView) → names ≡ c.in_ok-always.always.items → IsNewStore layout.vars layout.slots names d → IsStoreOf c.args.text.now d = λ names d same made. is_store_of c.args.text.now shape layout.vars layout.slots names d c.in_ok-shape.ensures.ok c.in_ok-check_bounds.ensures.ok c.in_ok-layout.ensures.vars c.in_ok-layout.ensures.slots (same ∙ c.in_ok-always.ensures) made in
    elim c.if-is_in_place.branch [
      | then-is_in_place+in_ok-made w ↦ rw w.made-is (of _ _ w.deref.ensures.value w.in_ok-made.ensures.new)
      | else-is_in_place+in_ok-made-2 w ↦ rw w.made-is (of _ _ w.deref-else-is_in_place.ensures.value w.in_ok-made-2.ensures)
    ]
