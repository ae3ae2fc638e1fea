use Rattle.std.proofs.Common.{◌≡◌, ℕ, take}
use Rattle.tmem_image.specs.Pages.{has_page, is_page_written}
use Rattle.tmem_image.proofs.page_sets.pages_written.Given as goal

abbrev pub invariant-loop-var : goal.invariant-loop-var
invariant-loop-var l = (page : ℕ) → has_page l.pages page ≡ is_page_written (take l.var-index l.writes) page
