use Rattle.std.proofs.lemmas.Grind.{common_steps}
use Rattle.std.proofs.Common.{arith, ℕ, refl, sym, ap, subst, ◌∷◌, []}
use Rattle.std.specs.Prelude.{OnOk}
use Rattle.std.specs.Io.KnownBytes.{Appends}
use Rattle.std.proofs.lemmas.Result.{on_ok_weaker}
use Rattle.tmem_script.specs.Lines.{line_of}
use Rattle.tmem_script.specs.declared.script.ScriptEntry.{ScriptEntry}
use Rattle.tmem_script.specs.declared.script.ScriptEntry.TheVariants.{Event, Show}
use Rattle.tmem_world.specs.WorldModel.{present}
use Rattle.tmem_world.specs.Represents.{setting_of, world_disk}
use Rattle.tmem_run.specs.Chains.{PlaysEntriesOn}
use Rattle.tmem_run.specs.Printed.{line, shown, PlaysEntries}
use Rattle.tmem_world.proofs.Laws.{rests_on}
use Rattle.tmem_run.proofs.Entries.{Prints-one}
use Rattle.tmem_run.proofs.Stores.{go_on-event, go_on-show}
use Rattle.tmem_run.proofs.playing.play_entry.Goals as goal

pub returns-in-Event-clause-played : goal.returns-in-Event-clause-played
returns-in-Event-clause-played g c =
    subst (λ (e : ScriptEntry). OnOk c.print_line.result (PlaysEntries c.args.world.now (g.W.Write.contents c.args.out.now) (e ∷ []) c.step-reply.new.self (g.W.Write.contents c.print_line.new.out))) (sym c.in-Event.is)
    (on_ok_weaker c.print_line.result
    (λ wrote program means m at premise.
    let next = c.step-reply.ensures.step program means m at (rests_on _ c.in-Event.playable.event premise) in
    (next.0, line (line_of c.step-reply.result), Prints-one (setting_of c.args.world.now program) (Event c.in-Event.playable) (line (line_of c.step-reply.result)) m next.0 (c.step-reply.result, next.1, refl), next.2, wrote))
    c.print_line.ensures.line)

pub returns-in-Show-clause-played : goal.returns-in-Show-clause-played
returns-in-Show-clause-played g c =
    subst (λ (e : ScriptEntry). OnOk c.print_state.result (PlaysEntries c.args.world.now (g.W.Write.contents c.args.out.now) (e ∷ []) c.args.world.now (g.W.Write.contents c.print_state.new.out))) (sym c.in-Show.is)
    (on_ok_weaker c.print_state.result
    (λ wrote program means m at premise.
    let text = line (shown c.args.vars m.status (present program m)) in
    (m, text, Prints-one (setting_of c.args.world.now program) Show text m m (ap (λ (v : ℕ). line (shown v m.status (present program m))) (sym c.requires), refl), at, wrote program m at))
    c.print_state.ensures.shown)

pub returns-in-Event-clause-chain : goal.returns-in-Event-clause-chain
returns-in-Event-clause-chain g c =
    let w = c.args.world.now in
    let new = c.step-reply.new.self in
    let it = c.in-Event.playable in
    let r = c.step-reply.result in
    subst (λ (e : ScriptEntry). PlaysEntriesOn w (e ∷ []) new (λ text. OnOk c.print_line.result (Appends (g.W.Write.contents c.args.out.now) (g.W.Write.contents c.print_line.new.out) text))) (sym c.in-Event.is)
    (λ program means h m has keeps.
    let now = c.step-reply.ensures.chain program means h m has keeps in
    (line (line_of r), go_on-event program w new h m it r now.0 now.1 now.2 now.3, c.print_line.ensures.line))

pub returns-in-Show-clause-chain : goal.returns-in-Show-clause-chain
returns-in-Show-clause-chain g c =
    let w = c.args.world.now in
    let before = g.W.Write.contents c.args.out.now in
    let after = g.W.Write.contents c.print_state.new.out in
    subst (λ (e : ScriptEntry). PlaysEntriesOn w (e ∷ []) w (λ text. OnOk c.print_state.result (Appends before after text))) (sym c.in-Show.is)
    (λ program means h m has keeps. (
      line (shown w.layout.vars m.status (present program m)),
      go_on-show program w (g.met.D.Disk.is_device (world_disk w)) h m has,
      on_ok_weaker c.print_state.result (λ wrote. subst (λ (v : ℕ). Appends before after (line (shown v m.status (present program m)))) (sym c.requires) (wrote program m has.point)) c.print_state.ensures.shown,
    ))

pub returns-in-Show-clause-elsewhere : goal.returns-in-Show-clause-elsewhere
returns-in-Show-clause-elsewhere g c = grind (arith, common_steps)
