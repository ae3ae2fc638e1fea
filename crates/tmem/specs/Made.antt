-- What `init` makes of the shape of a store.
use Rattle.std.specs.Prelude.{ℕ, All, List, map, filter}
use Rattle.tmem_disk.specs.Disk.{DeviceView}
use Rattle.tmem_tables.specs.declared.linear.Linear.{Linear}
use Rattle.tmem_shape.specs.Shapes.{CanHold, IsShapeText}
use Rattle.tmem_shape.specs.declared.shape.StoreShape.{StoreShape}
use Rattle.tmem_file.specs.FileView.{file_view}
use Rattle.tmem_file.specs.declared.disk.FileDisk.{FileDisk}
use Rattle.tmem_init.specs.Content.{IsNewStore}

-- the names of those invariants that always hold
abbrev pub always_in : List Linear → List (List ℕ)
always_in all = map (λ linear. linear.name) (filter (λ linear. linear.always) all)

-- The text is that of a shape, each of whose invariants some sum keeps, and a store of it is on this device: an opening finds that every
-- variable is 0, and that the invariants are registered that always hold, and no others.
pub record IsStoreOf (text : List ℕ) (d : DeviceView) : Type 0 where
  pub shape : StoreShape
  pub is : IsShapeText shape text
  pub hold : All CanHold shape.invariants.items
  pub made : IsNewStore shape.vars shape.slots (always_in shape.invariants.items) d

-- a store was made of the shape of a text
abbrev pub MakesStore : Type 0
MakesStore = (text : List ℕ) × (made : FileDisk) × IsStoreOf text (file_view made)
