use Rattle.std.proofs.Common.{◌⊎◌, ℕ, List, Option, Some, option_map, Bor, arith, inl, inr, sym, ap, subst, ◌∙◌}
use Rattle.std.specs.Prelude.{OnOk, IfErr}
use Rattle.std.proofs.lemmas.Result.{on_ok_weaker, IfErr-weaker}
use Rattle.tmem_disk.specs.SimParts.{sim_is_device, sim_view}
use Rattle.tmem_script.specs.declared.failure.ProgramFailure.TheVariants.{Refused}
use Rattle.tmem_file.specs.FileView.{file_view}
use Rattle.tmem_file.specs.declared.disk.FileDisk.{FileDisk}
use Rattle.tmem_run.specs.Stored.{IsFoundOrMade, PlaysOver, StopsOver, RefusesOver, PlaysWhere, StopsWhere}
use Rattle.tmem_run.proofs.Stored.{PlaysScript-of, first_stops}
use Rattle.tmem_run.proofs.playing.play_with.Goals as goal

pub returns-in_ok-disk-in-None-clause-played : goal.returns-in_ok-disk-in-None-clause-played
returns-in_ok-disk-in-None-clause-played g c =
    let disk = c.in_ok-disk-in-None.disk in
    let layout = c.args.layout in
    let empty = c.in_ok-disk-in-None.ensures.stands.each tt _ ((sim_is_device disk).seen_may_stay tt) in
    subst (λ (p : Option (Bor (List ℕ))). OnOk c.play_on.result.1 (PlaysWhere (option_map (λ (t : Bor (List ℕ)). t.now) p) c.args.device.now layout.vars layout.slots c.args.entries.items (g.W.Write.contents c.args.out.now) (g.W.Write.contents c.play_on.new.out))) (sym c.in-None.is)
    (on_ok_weaker c.play_on.result.1
    (λ it. PlaysScript-of c.represents_one.ensures layout.vars layout.slots layout.fits (sim_view disk) (sim_view c.play_on.result.0) empty c.args.entries.items _ _ (it tt).1)
    c.play_on.ensures.played)

pub returns-in_ok-disk-in-None-clause-failed : goal.returns-in_ok-disk-in-None-clause-failed
returns-in_ok-disk-in-None-clause-failed g c =
    let disk = c.in_ok-disk-in-None.disk in
    let layout = c.args.layout in
    let empty = c.in_ok-disk-in-None.ensures.stands.each tt _ ((sim_is_device disk).seen_may_stay tt) in
    subst (λ (p : Option (Bor (List ℕ))). IfErr c.play_on.result.1 (StopsWhere (option_map (λ (t : Bor (List ℕ)). t.now) p) c.args.device.now layout.vars layout.slots c.args.entries.items)) (sym c.in-None.is)
    (IfErr-weaker c.play_on.result.1 _ _
    (λ failure why. elim why [
      | inl stops ↦ inl stops.0
      | inr refused ↦ elim (first_stops c.represents_one.ensures layout.vars layout.slots layout.fits (sim_view disk) (sim_view c.play_on.result.0) empty c.refused_represents_none.ensures c.spent_is_at_last.ensures refused.0 (omega (arith, c.in_ok-disk-in-None.ensures.capacity)) tt refused.2) [
        | inl memory ↦ inr (inl (refused.1 ∙ ap Refused memory))
        | inr device ↦ inr (inr (refused.1 ∙ ap Refused device))
      ]
    ])
    c.play_on.ensures.failed)

pub returns-in_ok-disk-in-Some-clause-played : goal.returns-in_ok-disk-in-Some-clause-played
returns-in_ok-disk-in-Some-clause-played g c =
    let layout = c.args.layout in
    let went = c.play_on-left in
    let zeros = c.in_ok-disk-in-Some.zeros in
    let before = g.W.Write.contents c.args.out.now in
    let after = g.W.Write.contents went.new.out in
    subst (λ (p : Option (Bor (List ℕ))). OnOk went.result.1 (PlaysWhere (option_map (λ (t : Bor (List ℕ)). t.now) p) (Some (record { zeros = zeros; found = c.of-found.result; left = went.result.0 })) layout.vars layout.slots c.args.entries.items before after)) (sym c.in-Some.is)
    (on_ok_weaker went.result.1
    (λ it. subst (λ (d : FileDisk). IsFoundOrMade layout.vars layout.slots zeros d × PlaysOver file_view layout.vars layout.slots c.args.entries.items d went.result.0 before after) (sym c.of-found.ensures) (c.in_ok-disk-in-Some.ensures.device, it))
    went.ensures.played)

pub returns-in_ok-disk-in-Some-clause-failed : goal.returns-in_ok-disk-in-Some-clause-failed
returns-in_ok-disk-in-Some-clause-failed g c =
    let layout = c.args.layout in
    let went = c.play_on-left in
    let zeros = c.in_ok-disk-in-Some.zeros in
    subst (λ (p : Option (Bor (List ℕ))). IfErr went.result.1 (StopsWhere (option_map (λ (t : Bor (List ℕ)). t.now) p) (Some (record { zeros = zeros; found = c.of-found.result; left = went.result.0 })) layout.vars layout.slots c.args.entries.items)) (sym c.in-Some.is)
    (IfErr-weaker went.result.1 _ _
    (λ failure why. subst (λ (d : FileDisk). IsFoundOrMade layout.vars layout.slots zeros d × (StopsOver file_view layout.vars layout.slots c.args.entries.items d went.result.0 failure ⊎ RefusesOver file_view layout.vars layout.slots d went.result.0 failure)) (sym c.of-found.ensures)
    (c.in_ok-disk-in-Some.ensures.device, why))
    went.ensures.failed)
