use Rattle.tmem_image.proofs.Laws.{HoldsOthers-all}
use Rattle.tmem_layer_tests.proofs.tests.acts.is_written.Goals as goal

pub write_spare-requires-clause-others : goal.write_spare-requires-clause-others
write_spare-requires-clause-others c = record { each = λ k content left. HoldsOthers-all _ _ _ content c.in-Ok.layout.fits.vars_fit }
