use Rattle.std.proofs.Common.{◌≡◌, filter, take}
use Rattle.std.specs.Io.KnownBytes.{Appends}
use Rattle.tmem_fault.specs.Name.{has_name}
use Rattle.tmem_core.specs.Program.{Program}
use Rattle.tmem_world.specs.WorldModel.{WorldModel, present}
use Rattle.tmem_world.specs.Represents.{Represents}
use Rattle.tmem_run.specs.Printed.{all_names, listed}
use Rattle.tmem_run.proofs.Listing.{is_none}
use Rattle.tmem_run.proofs.print.print_names.Given as goal

abbrev pub invariant-loop-name : goal.invariant-loop-name
invariant-loop-name g l = (l.name-items ≡ all_names) × ((program : Program) (m : WorldModel) → Represents program l.world m
    → Appends (g.W.Write.contents l.fn.out) (g.W.Write.contents l.out) (listed (filter (λ name. has_name (present program m).names name) (take l.name-index l.name-items)))
    × (l.is_first ≡ is_none (filter (λ name. has_name (present program m).names name) (take l.name-index l.name-items))))
