-- What a cursor has to have room for.
use Rattle.std.specs.Prelude.{ℕ}
use Rattle.tmem_effect.specs.State.{no_effect}
use Rattle.tmem_tree.specs.Run.{no_registers}
use Rattle.tmem_tentative.specs.declared.save.Save.{Save}
use Rattle.tmem_tentative.specs.declared.cursor.Stage.{Stage}
use Rattle.tmem_tentative.specs.declared.cursor.Stage.TheVariants.{Waits}

-- for how many more values
abbrev pub wanted : Stage → ℕ
wanted (Waits var) = 1
wanted _ = 0

-- a save that nothing was put into yet
abbrev pub no_save : Save
no_save = record { registers = no_registers; effect = no_effect }
