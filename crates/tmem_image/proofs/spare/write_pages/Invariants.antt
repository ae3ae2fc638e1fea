use Rattle.std.proofs.Common.{◌≡◌, ◌*◌}
use Rattle.tmem_disk.specs.Disk.{SameSeenOutside, AtEachMoment}
use Rattle.tmem_gate.specs.Calls.{WritesWithin}
use Rattle.tmem_record.specs.Layout.{pages_of}
use Rattle.tmem_record.specs.StandsAt.{StandsAt}
use Rattle.tmem_image.specs.Pages.{HoldsOthers}
use Rattle.tmem_image.proofs.Pages.{pages_front}
use Rattle.tmem_image.proofs.spare.write_pages.Given as goal

abbrev pub invariant-loop-page : goal.invariant-loop-page
invariant-loop-page g l =
    let now = g.D.Disk.view l.disk in
    let before = g.D.Disk.view l.fn.disk in
    record {
      capacity : now.capacity ≡ before.capacity;
      model : now.keeps_model → before.keeps_model;
      failures : now.failures ≡ before.failures;
      stand : now.keeps_model → StandsAt l.at (pages_front l.values l.page) now.seen;
      ahead : SameSeenOutside l.at (512 * l.page) before now;
      kept : AtEachMoment before now (HoldsOthers l.at l.fn.layout.vars l.changed l.values);
      elsewhere : WritesWithin l.at (512 * pages_of l.fn.layout.vars) before now;
    }
