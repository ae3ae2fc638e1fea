use Rattle.tmem_spine.proofs.Noted.{opens}
use Rattle.tmem_spine.proofs.opened.Opened.new.Goals as goal

pub of_words-requires : goal.of_words-requires
of_words-requires c = opens c.args.start c.ranges.start.fits
