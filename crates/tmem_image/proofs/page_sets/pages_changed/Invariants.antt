use Rattle.std.proofs.Common.{◌≡◌, ℕ, take}
use Rattle.tmem_image.specs.Pages.{has_page, is_page_changed}
use Rattle.tmem_image.proofs.page_sets.pages_changed.Given as goal

abbrev pub invariant-loop-effect : goal.invariant-loop-effect
invariant-loop-effect l = (page : ℕ) → has_page l.pages page ≡ is_page_changed (take l.effect-index l.effects) page
