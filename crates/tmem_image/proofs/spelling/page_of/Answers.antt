use Rattle.std.proofs.Common.{◌*◌, subst, refl}
use Rattle.tmem_image.specs.Spelling.{AreValues}
use Rattle.tmem_image.proofs.Pages.{part_is, page_is}
use Rattle.tmem_image.proofs.spelling.page_of.Goals as goal

pub returns-clause-bytes : goal.returns-clause-bytes
returns-clause-bytes c =
    page_is c.args.values.now c.args.page (64 * c.args.page) c.min-count.result _ refl c.min-count.ensures c.requires refl c.put_values.result _ c.put_values.ensures.next c.put_values.ensures.front c.put_values.ensures.rest

pub returns-clause-numbers : goal.returns-clause-numbers
returns-clause-numbers c =
    subst AreValues (part_is c.args.values.now c.args.page (64 * c.args.page) c.min-count.result _ refl c.min-count.ensures c.requires refl) c.put_values.ensures.numbers
