-- How `serve` serves a store of a shape.
use Rattle.std.specs.Prelude.{ℕ, true, List, [], ◌∷◌, Option, map}
use Rattle.std.specs.Io.KnownBytes.{IsAtEnd}
use Rattle.tmem_core.specs.Program.{Program}
use Rattle.tmem_invariants.specs.Meanings.{Meanings}
use Rattle.tmem_invariants.specs.Joined.{meaning_also}
use Rattle.tmem_tables.specs.Sums.{is_sum_within}
use Rattle.tmem_tables.specs.declared.linear.Linear.{Linear}
use Rattle.tmem_builtins.specs.Builtins.{builtin_steps}
use Rattle.tmem_shape.specs.Shapes.{IsShapeText}
use Rattle.tmem_shape.specs.declared.shape.StoreShape.{StoreShape}
use Rattle.tmem_file.specs.FileView.{file_view}
use Rattle.tmem_file.specs.Opening.{IsFreshlyOpened}
use Rattle.tmem_file.specs.declared.disk.FileDisk.{FileDisk}
use Rattle.tmem_serve.specs.Stores.{OpensAndServes}
use Rattle.tmem_serve.specs.declared.error.ServeError.{ServeError}
use Rattle.tmem_serve.specs.declared.error.ServeError.TheVariants as error
use Rattle.tmem_desk.specs.declared.failure.DeskFailure.TheVariants as desk
use Rattle.tmem_advice.specs.declared.failure.StoreFailure.{StoreFailure}
use Rattle.tmem_advice.specs.declared.failure.StoreFailure.TheVariants as store
use Rattle.tmem_run.specs.Builtin.{builtin_arities}
use Rattle.tmem.specs.Made.{always_in}

-- the names of invariants
abbrev pub names_in : List Linear → List (List ℕ)
names_in all = map (λ linear. linear.name) all

-- what their names mean: that the sum is within the bounds
abbrev pub meanings_of : List Linear → Meanings
meanings_of [] = record { footprint = λ name. []; test = λ name values. true }
meanings_of (linear ∷ others) = meaning_also linear.name linear.footprint.items (is_sum_within linear.weights.items linear.least linear.most) (meanings_of others)

-- what they and the builtin steps bring to a store
abbrev pub program_of : List Linear → Program
program_of all = record { steps = builtin_steps; names = names_in all; tests = meanings_of all }

-- The text is that of a shape, and what the opening of a file found under it was served to the end of the input, of which no byte is left.
pub record ServesShape (text : List ℕ) (unread rest before after : Option (List ℕ)) : Type 0 where
  pub shape : StoreShape
  pub is : IsShapeText shape text
  pub found : FileDisk
  pub opened : IsFreshlyOpened (file_view found)
  pub served : OpensAndServes file_view (program_of shape.invariants.items) builtin_arities (always_in shape.invariants.items) shape.vars shape.slots shape.names.items found unread rest before after
  pub whole : IsAtEnd rest

-- a store was served under the shape of a text
abbrev pub ServesAnyShape : Option (List ℕ) → Option (List ℕ) → Option (List ℕ) → Option (List ℕ) → Type 0
ServesAnyShape unread rest before after = (text : List ℕ) × ServesShape text unread rest before after

-- what the user is told where a store was not served to the end of its input
abbrev pub store_failure_of : ServeError → StoreFailure
store_failure_of (error.Unregistered name) = store.Unregistered name
store_failure_of (error.Ended (desk.Fault fault)) = store.Ended fault
store_failure_of (error.Ended desk.Output) = store.Output
