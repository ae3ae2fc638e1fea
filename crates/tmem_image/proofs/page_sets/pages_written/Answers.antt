use Rattle.std.proofs.Common.{◌<◌, ◌/◌, ◌||◌, ◌==◌, ℕ, pos, get_or, sym, ap, ◌∙◌, arith}
use Rattle.std.proofs.lemmas.List.Folds.{list_any_more}
use Rattle.tmem_image.proofs.PageSets.{has_page-zero, has_page-set}
use Rattle.tmem_image.proofs.page_sets.pages_written.Goals as goal

pub loop-var-init : goal.loop-var-init
loop-var-init c = λ page. has_page-zero page

pub loop-var-preserved : goal.loop-var-preserved
loop-var-preserved c = λ page.
    let var : ℕ = (get_or c.args.writes.now c.loop-var.var-index (0, pos 0)).0 in
    let below : var < 1024 = c.requires c.loop-var.var-index (0, pos 0) c.loop-var-test.true in
    has_page-set c.loop-var.pages (var / 64) page (omega (arith, below))
    ∙ ap (λ b. b || var / 64 == page) (c.loop-var.invariant page)
    ∙ sym (list_any_more (λ w. w.0 / 64 == page) c.args.writes.now c.loop-var.var-index (0, pos 0) c.loop-var-test.true)
