use Rattle.std.proofs.Common.{refl}
use Rattle.std.proofs.lemmas.List.{length-map}
use Rattle.std.proofs.lemmas.Option.{slice_get_read}
use Rattle.tmem_tree.proofs.steps.StepsStoredSteps.answer.Goals as goal

pub returns : goal.returns
returns g c = λ m stated.
    c.call.ensures (m c.args.index) (stated c.args.index c.index.result.now (slice_get_read _ _ c.args.index _ refl (simp length-map at c.requires.there) c.index.ensures))
