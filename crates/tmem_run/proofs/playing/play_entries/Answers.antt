use Rattle.std.proofs.Common.{rules, ◌≡◌, ◌++◌, ◌∷◌, [], List, ◌∙◌, ap, sym, subst, append_assoc, arith}
use Rattle.std.proofs.lemmas.Grind.{common_steps}
use Rattle.std.specs.Io.KnownBytes.{Appends}
use Rattle.tmem_world.specs.Represents.{world_disk, numbers_of, world_view}
use Rattle.tmem_world.proofs.Laws.{KeepsSetting-refl, KeepsSetting-trans, WritesInStore-refl}
use Rattle.tmem_run.specs.Chains.{PlaysEntriesOn, PlaysFirstOn}
use Rattle.tmem_run.proofs.Laws.{err_of}
use Rattle.tmem_run.specs.Printed.{PlaysEntries}
use Rattle.tmem_script.specs.declared.script.ScriptEntry.{ScriptEntry}
use Rattle.tmem_run.proofs.Entries.{PlaysEntries-nil, PlaysEntries-more}
use Rattle.tmem_run.proofs.Stores.{go_on-nil, plays-then, then_within}
use Rattle.tmem_run.proofs.Laws.{Appends-then, Appends-nil}
use Rattle.tmem_run.proofs.playing.play_entries.Goals as goal

pub loop-entry-preserved : goal.loop-entry-preserved
loop-entry-preserved g c =
    let so = c.loop-entry.invariant in
    let taken : c.loop-entry.entry-iterator.rest.items ≡ c.in-Some.entry ∷ c.next.new.self.rest.items = c.in-Some.ensures.steps.0 in
    let parts : (c.loop-entry.yielded ++ c.in-Some.entry ∷ []) ++ c.next.new.self.rest.items ≡ c.args.entries.items =
    append_assoc c.loop-entry.yielded (c.in-Some.entry ∷ []) c.next.new.self.rest.items ∙ ap (λ (es : List ScriptEntry). c.loop-entry.yielded ++ es) (sym taken) ∙ so.parts in
    record {
      kept = KeepsSetting-trans c.args.world.now c.loop-entry.world c.play_entry.new.world so.kept c.play_entry.ensures.kept;
      parts = parts;
      played = PlaysEntries-more c.args.world.now c.loop-entry.world c.play_entry.new.world _ _ _ c.loop-entry.yielded c.in-Some.entry so.kept c.play_entry.ensures.kept so.played c.in_ok-play_entry.ensures.played;
      elsewhere = then_within c.args.world.now c.loop-entry.world c.play_entry.new.world so.kept c.play_entry.ensures.kept so.elsewhere c.play_entry.ensures.elsewhere;
      chain = plays-then c.args.world.now c.loop-entry.world c.play_entry.new.world so.kept c.play_entry.ensures.kept so.elsewhere c.play_entry.ensures.elsewhere c.loop-entry.yielded (c.in-Some.entry ∷ []) _ _ _
          (λ one two first second. Appends-then _ _ _ one two first second) so.chain c.in_ok-play_entry.ensures.chain;
    }

pub returns-clause-played : goal.returns-clause-played
returns-clause-played g c =
    let so = c.loop-entry.invariant in
    let all : c.loop-entry.yielded ≡ c.args.entries.items = grind (arith, common_steps, so.parts) in
    subst (λ (es : List ScriptEntry). PlaysEntries c.args.world.now (g.W.Write.contents c.args.out.now) es c.loop-entry.world (g.W.Write.contents c.loop-entry.out)) all so.played

pub loop-entry-init : goal.loop-entry-init
loop-entry-init g c =
    let w = c.args.world.now in
    let device = g.met.D.Disk.is_device (world_disk w) in
    record {
      kept = KeepsSetting-refl w;
      parts = search rules;
      elsewhere = WritesInStore-refl (numbers_of w) (world_view w) device;
      chain = λ program means h m has keeps. ([], go_on-nil program w device h m has, Appends-nil _);
      played = PlaysEntries-nil w _;
    }

pub returns-in_err-play_entry-clause-stopped : goal.returns-in_err-play_entry-clause-stopped
returns-in_err-play_entry-clause-stopped g c =
    let so = c.loop-entry.invariant in
    let taken : c.loop-entry.entry-iterator.rest.items ≡ c.in-Some.entry ∷ c.next.new.self.rest.items = c.in-Some.ensures.steps.0 in
    let parts : (c.loop-entry.yielded ++ c.in-Some.entry ∷ []) ++ c.next.new.self.rest.items ≡ c.args.entries.items =
    append_assoc c.loop-entry.yielded (c.in-Some.entry ∷ []) c.next.new.self.rest.items ∙ ap (λ (es : List ScriptEntry). c.loop-entry.yielded ++ es) (sym taken) ∙ so.parts in
    err_of (PlaysFirstOn c.args.world.now c.args.entries.items c.play_entry.new.world) c.from_residual.result (
      c.loop-entry.yielded ++ c.in-Some.entry ∷ [],
      (c.next.new.self.rest.items, sym parts),
      plays-then c.args.world.now c.loop-entry.world c.play_entry.new.world so.kept c.play_entry.ensures.kept so.elsewhere c.play_entry.ensures.elsewhere c.loop-entry.yielded (c.in-Some.entry ∷ []) _ _ _
          (λ one two first second. tt) so.chain c.play_entry.ensures.chain,
    )

pub returns-clause-chain : goal.returns-clause-chain
returns-clause-chain g c =
    let so = c.loop-entry.invariant in
    let all : c.loop-entry.yielded ≡ c.args.entries.items = grind (arith, common_steps, so.parts) in
    subst (λ (es : List ScriptEntry). PlaysEntriesOn c.args.world.now es c.loop-entry.world (Appends (g.W.Write.contents c.args.out.now) (g.W.Write.contents c.loop-entry.out))) all so.chain

pub returns-in_err-play_entry-clause-elsewhere : goal.returns-in_err-play_entry-clause-elsewhere
returns-in_err-play_entry-clause-elsewhere g c =
    let so = c.loop-entry.invariant in
    then_within c.args.world.now c.loop-entry.world c.play_entry.new.world so.kept c.play_entry.ensures.kept so.elsewhere c.play_entry.ensures.elsewhere
