use Rattle.std.specs.Io.KnownBytes.{Appends}
use Rattle.tmem_core.specs.Program.{Program}
use Rattle.tmem_world.specs.WorldModel.{WorldModel, present}
use Rattle.tmem_world.specs.Represents.{Represents}
use Rattle.tmem_run.specs.Printed.{listed, values_text}
use Rattle.tmem_run.proofs.print.print_values.Given as goal

abbrev pub invariant-loop-var : goal.invariant-loop-var
invariant-loop-var g l = (program : Program) (m : WorldModel) → Represents program l.world m
    → Appends (g.W.Write.contents l.fn.out) (g.W.Write.contents l.out) (listed (values_text l.var (present program m)))
