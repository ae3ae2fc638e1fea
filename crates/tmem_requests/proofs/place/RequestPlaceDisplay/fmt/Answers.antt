use Rattle.std.proofs.Common.{◌≡◌, flat_map, take, refl, sym, ap, ◌∙◌, subst}
use Rattle.std.proofs.lemmas.Grind.{put_two}
use Rattle.std.proofs.lemmas.List.{take_all}
use Rattle.std.specs.Fmt.{HasWritten}
use Rattle.tmem_requests.specs.Refusals.{place_text, step_text}
use Rattle.tmem_requests.proofs.Written.{joined_more}
use Rattle.tmem_requests.proofs.place.RequestPlaceDisplay.fmt.Goals as goal

pub loop-step-preserved : goal.loop-step-preserved
loop-step-preserved g c = λ plain.
    let was = c.loop-step.invariant plain in
    put_two _ _ _ _ _ _ _ was (c.in_ok-fmt-in-Pointer.ensures.writes was.plain refl) (joined_more step_text c.deref-step-items.result.now c.loop-step.step-index _ c.loop-step-test.true)

pub returns-after-loop-step-clause-writes : goal.returns-after-loop-step-clause-writes
returns-after-loop-step-clause-writes g c = λ plain ok.
    let items = c.deref-step-items.result.now in
    let i = c.loop-step.step-index in
    let whole : flat_map step_text (take i items) ≡ place_text c.args.self.now = ap (flat_map step_text) (take_all i items c.loop-step-test.false ∙ c.deref-step-items.ensures.value) ∙ ap place_text (sym c.in-Pointer.is) in
    subst (λ bs. HasWritten g.W.Write.write_str_gives c.args.f.now bs c.loop-step.f) whole (c.loop-step.invariant plain)
