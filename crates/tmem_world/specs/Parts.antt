-- What a world has: a core with its journal, or the device and the table that are left without one.
use Rattle.std.specs.Prelude.{Option, Some, None, IsSome}
use Rattle.std.proofs.lemmas.Bool.{false≢true}
use Rattle.tmem_core.specs.Held.{core_table}
use Rattle.tmem_journal.specs.Held.{disk_of, journal_layout}
use Rattle.tmem_record.specs.declared.layout.Layout.{Layout}
use Rattle.tmem_world.specs.declared.held.Held.{Held}
use Rattle.tmem_world.specs.declared.held.Held.TheVariants.{With, Without}

-- what is there
abbrev pub what : {A : Type 0} (o : Option A) → IsSome o → A
what (Some x) is = x
what None is = absurd (false≢true is)

-- its device
abbrev pub held_disk : {D T : Type 0} {d t : _} → Held D T d t → D
held_disk (With both) = disk_of both.journal
held_disk (Without left) = left.disk

-- its numbers of variables and log slots
abbrev pub layout_in : {D T : Type 0} {d t : _} → Held D T d t → Layout
layout_in (With both) = journal_layout both.journal
layout_in (Without left) = left.layout

-- the table of its invariants
abbrev pub table_in : {D T : Type 0} {d t : _} → Held D T d t → T
table_in (With both) = core_table both.core
table_in (Without left) = left.table

-- a core is there
abbrev pub IsWith : {D T : Type 0} {d t : _} → Held D T d t → Type 0
IsWith (With both) = Unit {0}
IsWith (Without left) = ⊥
