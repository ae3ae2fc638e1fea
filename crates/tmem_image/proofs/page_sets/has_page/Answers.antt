use Rattle.tmem_image.proofs.PageSets.{has_page-bit}
use Rattle.tmem_image.proofs.page_sets.has_page.Goals as goal

pub returns : goal.returns
returns c = has_page-bit c.args.pages c.args.page
