-- The point of a run after an event, on any device.
use Rattle.std.proofs.Common.{ℕ, ⊎_elim, refl, subst}
use Rattle.tmem_disk.specs.Disk.{DeviceView}
use Rattle.tmem_fault.specs.declared.fault.Fault.{Fault}
use Rattle.tmem_fault.specs.declared.fault.Fault.TheVariants as fault
use Rattle.tmem_event.specs.declared.event.Event.{Event}
use Rattle.tmem_event.specs.declared.event.Event.TheVariants as event
use Rattle.tmem_event.specs.declared.event.Reply.{Reply}
use Rattle.tmem_event.specs.declared.event.Reply.TheVariants as reply
use Rattle.tmem_core.specs.Program.{Program, IsProgramOf}
use Rattle.tmem_world.specs.declared.world.World.{World}
use Rattle.tmem_journal.specs.Calls.{FitsOn}
use Rattle.tmem_journal.specs.Refusals.{IsWhy, IsRefusedBy}
use Rattle.tmem_opening.specs.Opening.{NamesInvariant, FindsUnsound, IsWhyNot, OpeningRefused}
use Rattle.tmem_world.specs.WorldModel.{WorldModel, opening}
use Rattle.tmem_world.specs.Represents.{Represents, Means, IsStep, held_table, setting_of, world_view}
use Rattle.tmem_world.specs.AnyDevice.{IsOpeningFault, dropped_by, AllowsReopenOnAnyDevice, AllowsOnAnyDevice, IsReopened, Reopens}

-- what an opening is refused for is among its faults
opening_faults : (P : Fault → Type 0) (U : Type 0) (f : Fault) → IsWhyNot P U f → IsOpeningFault f
opening_faults P U f why = ⊎_elim (by_content f) (λ it. by_invariant f it.0) why
  where
    by_content : (g : Fault) → IsWhy P g → IsOpeningFault g
    by_content fault.Memory why = tt
    by_content fault.Device why = tt
    by_content fault.NotFormatted why = tt
    by_content fault.Damaged why = tt
    by_content fault.Geometry why = tt
    by_content fault.Spent why = tt
    by_content _ why = absurd why

    by_invariant : (g : Fault) → NamesInvariant g → IsOpeningFault g
    by_invariant (fault.Missing name) is = tt
    by_invariant (fault.Broken name) is = tt
    by_invariant _ is = absurd is

refusals : (AreTheirs : Program → Type 0) (vars slots : ℕ) (old : DeviceView) (f : Fault) (new : DeviceView) → OpeningRefused AreTheirs vars slots old f new → IsOpeningFault f
refusals AreTheirs vars slots old f new it = opening_faults (λ g. new.keeps_model → FitsOn vars slots old.capacity → IsRefusedBy vars slots old.seen g) (FindsUnsound AreTheirs vars slots old f new) f it.why

module _ {D T S : Type 0} {d t s : _} (program : Program) (w w' : World D T S d t s) (m : WorldModel) (r : Represents program w m) (means : Means w' program) where
  reopens : (x : Reply) → IsReopened w x w' → (m' : WorldModel) × AllowsReopenOnAnyDevice m x m' × Represents program w' m'
  reopens (reply.Opened n) it =
      (opening it.0 it.1 m.failures, (it.0, it.1, it.2, refl), subst (λ (k : ℕ). Represents program w' (opening it.0 it.1 k)) r.failures (it.3 program means))
  reopens (reply.Fault f) it = (dropped_by f m, (refusals (IsProgramOf t (held_table w)) w.layout.vars w.layout.slots (world_view w) f (world_view w') it.refused, refl), it.point program m r)
  reopens _ it = absurd it

  -- the point of the run after an event, by the clauses of a step
  pub steps : (e : Event) (x : Reply) → Means w program → IsStep w e x w' → Reopens w e x w' → (m' : WorldModel) × AllowsOnAnyDevice (setting_of w program) m e x m' × Represents program w' m'
  steps (event.Begin attempt tx) x stated it again = it program stated m r tt
  steps (event.Turn attempt) x stated it again = it program stated m r tt
  steps (event.Settle attempt) x stated it again = it program stated m r tt
  steps event.Flush x stated it again = it program stated m r tt
  steps event.Checkpoint x stated it again = it program stated m r tt
  steps event.Look x stated it again = it program stated m r tt
  steps event.Reopen x stated it again = reopens x again
