-- What opening says of a device that it hands back as it was, and of the numbers that fit it.
use Rattle.std.proofs.Common.{◌≡◌, ℕ, ◌≤◌, refl, sym, ap, subst, arith}
use Rattle.std.specs.Prelude.{Err}
use Rattle.tmem_disk.specs.Disk.{DeviceView}
use Rattle.tmem_fault.specs.declared.fault.Fault.{Fault}
use Rattle.tmem_fault.specs.declared.fault.Fault.TheVariants.{Memory, Geometry}
use Rattle.tmem_gate.specs.Calls.{Uses, failures_after}
use Rattle.tmem_record.specs.Layout.{IsLayout, end_at}
use Rattle.tmem_record.specs.declared.layout.Layout.{Layout}
use Rattle.tmem_journal.specs.Calls.{FitsOn}
use Rattle.tmem_journal.specs.Journals.{IsOpeningRefused}
use Rattle.tmem_journal.specs.Refusals.{IsRefusedBy, IsWhy}

-- the numbers of a layout that the device has room for fit it
pub fits_on : (layout : Layout) (vars slots capacity : ℕ) → layout.vars ≡ vars → layout.slots ≡ slots → end_at layout.vars layout.slots ≤ capacity → FitsOn vars slots capacity
fits_on layout vars slots capacity same_vars same_slots room =
    let fits = subst (λ (v : ℕ). IsLayout v layout.slots) same_vars layout.fits in
    record { layout = subst (λ (s : ℕ). IsLayout vars s) same_slots fits; room = omega (arith, room, same_vars, same_slots) }

module _ (vars slots : ℕ) (d : DeviceView) where
  abbrev why : Fault → Type 0
  why f = IsWhy (λ g. d.keeps_model → FitsOn vars slots d.capacity → IsRefusedBy vars slots d.seen g) f

  pub unfit_uses : (T : Type 0) (f : Fault) → f ≡ Geometry → Uses {T = T} d d (Err f)
  unfit_uses T f is = record { capacity = refl; model = λ k. k; failures = ap (λ (g : Fault). failures_after g d.failures) (sym is) }

  pub unfit_refused : (f : Fault) → f ≡ Geometry → ¬ FitsOn vars slots d.capacity → IsOpeningRefused d vars slots f d
  unfit_refused f is unfit = record { numbers = λ _. is; why = subst why (sym is) (λ k fits. absurd (unfit fits)) }

  pub memory_refused : FitsOn vars slots d.capacity → IsOpeningRefused d vars slots Memory d
  memory_refused fits = record { numbers = λ unfit. absurd (unfit fits); why = tt }
