use Rattle.std.proofs.Common.{◌≡◌, ap, sym, ◌∙◌, option_to_list}
use Rattle.tmem_tree.specs.Signatures.{footprint_in}
use Rattle.tmem_tentative.specs.declared.attempt.Probe.{Probe}
use Rattle.tmem_tentative.specs.Logs.{run_state_of, footprint_seen_as, out_of}
use Rattle.tmem_tentative.proofs.PlaceLeaves.{lacks_leads, check_leads, out_is_stopped}
use Rattle.tmem_tentative.proofs.walk_on.check.Goals as goal

pub returns-in-Some-clause-leads : goal.returns-in-Some-clause-leads
returns-in-Some-clause-leads c = λ m footprint saves meant.
    let log = c.args.course.now.attempt in
    let name = c.args.name.now in
    let is : footprint name ≡ c.footprint_of-vars.result.now = meant ∙ ap (λ signatures. footprint_in signatures name) (sym c.signatures.ensures.signatures) ∙ sym c.footprint_of-vars.ensures.footprint in
    lacks_leads m footprint name c.footprint_of-vars.result.now is log saves c.in-Some.lacking (option_to_list c.args.course.now.pending) (λ left. c.see_given.ensures left ∙ ap (λ o. footprint_seen_as o c.see_given.new.into (run_state_of log left)) c.in-Some.is)

pub returns-clause-leads : goal.returns-clause-leads
returns-clause-leads c = λ m footprint saves meant.
    let log = c.args.course.now.attempt in
    let name = c.args.name.now in
    let values = c.see_given.new.into in
    let probe : Probe = record { name = name; values = values } in
    let is : footprint name ≡ c.footprint_of-vars.result.now = meant ∙ ap (λ signatures. footprint_in signatures name) (sym c.signatures.ensures.signatures) ∙ sym c.footprint_of-vars.ensures.footprint in
    check_leads m footprint name c.footprint_of-vars.result.now is log saves values c.settle.new.log (out_of c.settle.result c.settle.new.log probe)
    (λ left. c.see_given.ensures left ∙ ap (λ o. footprint_seen_as o values (run_state_of log left)) c.in_default.is)
    c.settle.ensures.reads c.args.course.now.pending c.take-held.new.self c.take-held.ensures.after
    (λ ask e. c.settle.ensures.stays (out_is_stopped c.settle.result c.settle.new.log probe ask e c.settle.ensures.needs_none))
    (rw c.take-held.ensures.value at c.settle.ensures.flow)
