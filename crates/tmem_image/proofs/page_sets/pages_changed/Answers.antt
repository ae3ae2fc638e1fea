use Rattle.std.proofs.Common.{◌||◌, take, sym, ap, ◌∙◌}
use Rattle.std.specs.List.{list_any}
use Rattle.std.proofs.lemmas.List.Folds.{list_any_more}
use Rattle.tmem_image.specs.Pages.{has_page, is_page_written}
use Rattle.tmem_image.proofs.PageSets.{has_page-zero, has_page-or}
use Rattle.tmem_image.proofs.page_sets.pages_changed.Goals as goal

pub loop-effect-init : goal.loop-effect-init
loop-effect-init c = λ page. has_page-zero page

pub loop-effect-preserved : goal.loop-effect-preserved
loop-effect-preserved c = λ page.
    let effect = c.effect-item.result in
    has_page-or c.loop-effect.pages c.pages_written-pages.result page
    ∙ ap (λ b. b || has_page c.pages_written-pages.result page) (c.loop-effect.invariant page)
    ∙ ap (λ b. list_any (λ e. is_page_written e.writes page) (take c.loop-effect.effect-index c.args.effects.now) || b) (c.pages_written-pages.ensures page ∙ ap (λ ws. is_page_written ws page) c.as_slice.ensures.writes ∙ ap (λ e. is_page_written e.writes page) c.effect-item.is)
    ∙ sym (list_any_more (λ e. is_page_written e.writes page) c.args.effects.now c.loop-effect.effect-index effect c.loop-effect-test.true)
