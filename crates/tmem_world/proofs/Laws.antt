-- Laws of the definitions that callers rest on: what a world keeps, and how a chain of sessions goes on.
use Rattle.std.proofs.Common.{◌≡◌, ℕ, ◌+◌, ◌*◌, ◌<◌, ◌^◌, List, [], ◌∷◌, ◌++◌, take, refl, sym, ◌∙◌, ap, subst, arith}
use Rattle.std.proofs.lemmas.List.{length-take-le}
use Rattle.tmem_disk.specs.Disk.{DeviceView, IsDevice}
use Rattle.tmem_core.specs.Program.{Program, IsProgramOf}
use Rattle.tmem_core.proofs.Laws.{count-committed}
use Rattle.tmem_effect.specs.State.{first_state}
use Rattle.tmem_record.specs.Layout.{image_at, image_size}
use Rattle.tmem_record.specs.declared.layout.Layout.{Layout}
use Rattle.tmem_gate.proofs.Laws.{WritesWithin-refl, WritesWithin-trans}
use Rattle.tmem_event.specs.declared.event.Event.{Event}
use Rattle.tmem_event.specs.declared.event.Event.TheVariants as event
use Rattle.tmem_event.specs.declared.event.Reply.{Reply}
use Rattle.tmem_journal.specs.Mended.{IsFoundAt}
use Rattle.tmem_journal.specs.Contents.{Position}
use Rattle.tmem_world.specs.declared.world.World.{World}
use Rattle.tmem_world.specs.Represents.{Means, KeepsSetting, RestsOn, WritesInStore, setting_of}
use Rattle.tmem_world.specs.Chain.{ChainHistory, IsSafePrefix, RunsOn, SessionRun, IsChain, IsChainAt, GrowsChain, just_opened, state_at, history_found, history_after}
use Rattle.tmem_world.specs.WorldModel.{WorldModel, Setting, Allows, opening}

module _ {D T S : Type 0} {d t s : _} where
  -- where nothing happened
  pub KeepsSetting-refl : (w : World D T S d t s) → KeepsSetting w w
  KeepsSetting-refl w = record { numbers = refl; steps = refl; table = refl; model = λ keeps. keeps }

  pub KeepsSetting-trans : (w mid new : World D T S d t s) → KeepsSetting w mid → KeepsSetting mid new → KeepsSetting w new
  KeepsSetting-trans w mid new first second = record {
    numbers = second.numbers ∙ first.numbers;
    steps = second.steps ∙ first.steps;
    table = second.table ∙ first.table;
    model = λ keeps. first.model (second.model keeps);
  }

  module _ (w w' : World D T S d t s) (program : Program) (kept : KeepsSetting w w') where
    -- the closures mean what they meant
    pub means_stay : Means w program → Means w' program
    means_stay means = record {
      steps = subst (λ (x : S). s.is_stated x program.steps) (sym kept.steps) means.steps;
      invariants = subst (λ (x : T). IsProgramOf t x program) (sym kept.table) means.invariants;
    }

    -- and the setting is what it was
    pub setting_stays : setting_of w' program ≡ setting_of w program
    setting_stays =
        ap (λ (l : Layout). record { vars = l.vars; slots = l.slots; arities = s.arities w'.steps; program = program }) kept.numbers
        ∙ ap (λ (x : S). record { vars = w.layout.vars; slots = w.layout.slots; arities = s.arities x; program = program }) kept.steps

-- each event may rest on a premise that holds
pub rests_on : (premise : Type 0) (e : Event) → premise → RestsOn premise e
rests_on premise event.Reopen p = p
rests_on premise _ p = tt

-- Chains of sessions.
module _ (set : Setting) where
  -- events and then others
  pub runs_on-append : (m : WorldModel) (h : ChainHistory) (es : List Event) (rs : List Reply) (x : WorldModel) (g : ChainHistory) → RunsOn set m h es rs x g
      → (more : List Event) (later : List Reply) (m' : WorldModel) (h' : ChainHistory) → RunsOn set x g more later m' h' → RunsOn set m h (es ++ more) (rs ++ later) m' h'
  runs_on-append m h [] [] x g so more later m' h' then =
      subst (λ (y : WorldModel). RunsOn set y h more later m' h') so.0 (subst (λ (f : ChainHistory). RunsOn set x f more later m' h') so.1 then)
  runs_on-append m h [] (r ∷ rs) x g so more later m' h' then = absurd so
  runs_on-append m h (e ∷ es) [] x g so more later m' h' then = absurd so
  runs_on-append m h (e ∷ es) (r ∷ rs) x g so more later m' h' then =
      (so.0, so.1, runs_on-append so.0 (history_after m e r so.0 h) es rs x g so.2 more later m' h' then)

  -- one event
  pub runs_on-one : (m : WorldModel) (h : ChainHistory) (e : Event) (r : Reply) (m' : WorldModel) → Allows set m e r m' → RunsOn set m h (e ∷ []) (r ∷ []) m' (history_after m e r m' h)
  runs_on-one m h e r m' allowed = (m', allowed, (refl, refl))

-- so the last session of a chain goes on
pub grows : (set : Setting) (m : WorldModel) (h : ChainHistory) (es : List Event) (rs : List Reply) (m' : WorldModel) (h' : ChainHistory) → RunsOn set m h es rs m' h' → GrowsChain set m h es rs m' h'
grows set m h es rs m' h' so = λ vars slots earlier s same at. (
  at.0,
  at.1,
  at.2,
  record {
    safe = at.3.safe;
    stands = at.3.stands;
    counted = at.3.counted;
    run = runs_on-append s.set (opening (state_at s.set.program s.set.vars at.0 s.found) s.position s.failures) (history_found s.found at.0) s.events s.replies m h at.3.run es rs m' h'
        (subst (λ (x : Setting). RunsOn x m h es rs m' h') (sym same) so);
  },
)

-- the session that found it is the next of each chain that led to the history
pub opens_chain : (set : Setting) (h : ChainHistory) (vars slots : ℕ) → set.vars ≡ vars → set.slots ≡ slots → (n : ℕ) (position : Position) (content : List ℕ) (failures : ℕ) → IsSafePrefix set.program vars h n
    → IsFoundAt vars slots content (state_at set.program vars h n) position → failures < 2 ^ 64
    → (earlier : List SessionRun) → IsChain vars slots earlier h → IsChainAt vars slots earlier (just_opened set content n position failures) (history_found n h) (opening (state_at set.program vars h n) position failures)
opens_chain set h vars slots same log n position content failures safe stands counted earlier chain =
    subst (λ (v : ℕ). IsSafePrefix set.program v h n → IsFoundAt v slots content (state_at set.program v h n) position → IsChain v slots earlier h → IsChainAt v slots earlier (just_opened set content n position failures) (history_found n h) (opening (state_at set.program v h n) position failures)) same
    (λ is found there. (
      h,
      there,
      (refl, log),
      record { safe = is; stands = subst (λ (k : ℕ). IsFoundAt set.vars k content (state_at set.program set.vars h n) position) (sym log) found; counted = counted; run = (refl, refl) },
    )) safe stands chain

-- a safe prefix is as long as the count of the state after it
pub count_at : (program : Program) (vars : ℕ) (h : ChainHistory) (n : ℕ) → IsSafePrefix program vars h n → (state_at program vars h n).count ≡ n
count_at program vars h n safe = omega (arith, count-committed program (first_state vars) (take n h.committed) safe.each, length-take-le n h.committed safe.committed)

-- what no call writes, and what two calls write
pub WritesInStore-refl : (layout : Layout) (d : DeviceView) → IsDevice d → WritesInStore layout d d
WritesInStore-refl layout d device = WritesWithin-refl (image_at layout.vars 0) (2 * image_size layout.vars + 4096 * layout.slots) d device

pub WritesInStore-trans : (layout : Layout) (old mid new : DeviceView) → (new.keeps_model → mid.keeps_model) → WritesInStore layout old mid → WritesInStore layout mid new → WritesInStore layout old new
WritesInStore-trans layout old mid new model first second = WritesWithin-trans (image_at layout.vars 0) (2 * image_size layout.vars + 4096 * layout.slots) old mid new model first second
