-- Entries that are played on a store that has a history.
use Rattle.std.proofs.Common.{◌≡◌, ⊎_elim, inl, inr, ℕ, ◌≤◌, List, [], ◌∷◌, ◌++◌, refl, sym, ap, subst, ◌∙◌, append_assoc, append-nil}
use Rattle.std.specs.Prelude.{Ok}
use Rattle.std.proofs.Math.Logic.{∥∥₁_map}
use Rattle.tmem_disk.specs.Disk.{DeviceView, IsDevice, AtEachMoment, Elapses}
use Rattle.tmem_disk.proofs.Laws.{either_time}
use Rattle.tmem_record.specs.declared.layout.Layout.{Layout}
use Rattle.tmem_core.specs.Program.{Program}
use Rattle.tmem_event.specs.declared.event.Reply.{Reply}
use Rattle.tmem_event.specs.declared.event.Reply.TheVariants as reply
use Rattle.tmem_script.specs.Lines.{line_of}
use Rattle.tmem_script.specs.declared.script.ScriptEntry.{ScriptEntry}
use Rattle.tmem_script.specs.declared.script.ScriptEntry.TheVariants as entry
use Rattle.tmem_script.specs.declared.script.Playable.{Playable}
use Rattle.tmem_world.specs.declared.world.World.{World}
use Rattle.tmem_world.specs.WorldModel.{Setting, WorldModel, Allows, present, opening}
use Rattle.tmem_opening.specs.Opening.{Mending}
use Rattle.tmem_world.specs.Represents.{Means, KeepsSetting, WritesInStore, setting_of, numbers_of, world_view}
use Rattle.tmem_world.specs.Chain.{ChainHistory, IsSafe, IsSafeIn, IsStore, Carries, RunsOn, OpensStore, IsChainAt, just_opened, state_at, history_found, history_after}
use Rattle.tmem_world.proofs.Laws.{grows, means_stay, setting_stays, WritesInStore-trans}
use Rattle.tmem_run.specs.Builtin.{builtin_program, builtin_setting}
use Rattle.tmem_run.specs.Printed.{line, shown}
use Rattle.tmem_run.specs.Chains.{PrintsOn, entry_events, IsSafeAmong, EntriesGoOn, PlaysEntriesOn, PlaysStore}

module _ (set : Setting) where
  -- entries and then others
  pub prints_on-append : (m : WorldModel) (h : ChainHistory) (es : List ScriptEntry) (rs : List Reply) (text : List ℕ) (x : WorldModel) (g : ChainHistory) → PrintsOn set m h es rs text x g
      → (more : List ScriptEntry) (later : List Reply) (rest : List ℕ) (m' : WorldModel) (h' : ChainHistory) → PrintsOn set x g more later rest m' h' → PrintsOn set m h (es ++ more) (rs ++ later) (text ++ rest) m' h'
  prints_on-append m h [] [] text x g so more later rest m' h' then =
      subst (λ (t : List ℕ). PrintsOn set m h more later (t ++ rest) m' h') (sym so.0)
      (subst (λ (y : WorldModel). PrintsOn set y h more later rest m' h') so.1 (subst (λ (f : ChainHistory). PrintsOn set x f more later rest m' h') so.2 then))
  prints_on-append m h [] (r ∷ rs) text x g so more later rest m' h' then = absurd so
  prints_on-append m h (entry.Event it ∷ es) [] text x g so more later rest m' h' then = absurd so
  prints_on-append m h (entry.Event it ∷ es) (r ∷ rs) text x g so more later rest m' h' then = (
    so.0,
    so.1 ++ rest,
    so.2,
    prints_on-append so.0 (history_after m it.event r so.0 h) es rs so.1 x g so.3 more later rest m' h' then,
    ap (λ (t : List ℕ). t ++ rest) so.4 ∙ append_assoc (line (line_of r)) so.1 rest,
  )
  prints_on-append m h (entry.Show ∷ es) rs text x g so more later rest m' h' then = (
    so.0 ++ rest,
    prints_on-append m h es rs so.0 x g so.1 more later rest m' h' then,
    ap (λ (t : List ℕ). t ++ rest) so.2 ∙ append_assoc (line (shown set.vars m.status (present set.program m))) so.0 rest,
  )

  -- the events among them are a run
  pub runs_of : (m : WorldModel) (h : ChainHistory) (es : List ScriptEntry) (rs : List Reply) (text : List ℕ) (m' : WorldModel) (h' : ChainHistory) → PrintsOn set m h es rs text m' h' → RunsOn set m h (entry_events es) rs m' h'
  runs_of m h [] [] text m' h' so = (so.1, so.2)
  runs_of m h [] (r ∷ rs) text m' h' so = absurd so
  runs_of m h (entry.Event it ∷ es) [] text m' h' so = absurd so
  runs_of m h (entry.Event it ∷ es) (r ∷ rs) text m' h' so = (so.0, so.2, runs_of so.0 (history_after m it.event r so.0 h) es rs so.1 m' h' so.3)
  runs_of m h (entry.Show ∷ es) rs text m' h' so = runs_of m h es rs so.0 m' h' so.1

  -- one entry, and no other
  pub prints_event : (m : WorldModel) (h : ChainHistory) (it : Playable) (r : Reply) (m' : WorldModel) → Allows set m it.event r m' → PrintsOn set m h (entry.Event it ∷ []) (r ∷ []) (line (line_of r)) m' (history_after m it.event r m' h)
  prints_event m h it r m' allowed = (m', [], allowed, (refl, refl, refl), sym (append-nil (line (line_of r))))

  pub prints_show : (m : WorldModel) (h : ChainHistory) → PrintsOn set m h (entry.Show ∷ []) [] (line (shown set.vars m.status (present set.program m))) m h
  prints_show m h = ([], (refl, refl, refl), sym (append-nil (line (shown set.vars m.status (present set.program m)))))

  -- what is safe at a point between the first entries and the rest is so among all
  safe_at : (m : WorldModel) (h : ChainHistory) (first : List ScriptEntry) (answers : List Reply) (early : List ℕ) (x : WorldModel) (g : ChainHistory) → PrintsOn set m h first answers early x g
      → (rest : List ScriptEntry) (later : List Reply) (late : List ℕ) (m' : WorldModel) (h' : ChainHistory) → PrintsOn set x g rest later late m' h' → (c : List ℕ) → IsSafe set.program set.vars set.slots g c
      → (es : List ScriptEntry) (rs : List Reply) → es ≡ first ++ rest → rs ≡ answers ++ later → IsSafeAmong set m h es rs m' h' c
  safe_at m h first answers early x g before rest later late m' h' after c safe es rs entries replies = record {
    first = first;
    rest = rest;
    answers = answers;
    later = later;
    early = early;
    late = late;
    entries = entries;
    replies = replies;
    point = x;
    reached = g;
    before = before;
    after = after;
    safe = safe;
  }

  -- what was safe among the first entries is so among those and others
  pub safe_among-more : (m : WorldModel) (h : ChainHistory) (es : List ScriptEntry) (rs : List Reply) (x : WorldModel) (g : ChainHistory)
      → (more : List ScriptEntry) (later : List Reply) (rest : List ℕ) (m' : WorldModel) (h' : ChainHistory) → PrintsOn set x g more later rest m' h'
      → (c : List ℕ) → IsSafeAmong set m h es rs x g c → IsSafeAmong set m h (es ++ more) (rs ++ later) m' h' c
  safe_among-more m h es rs x g more later rest m' h' then c it =
      safe_at m h it.first it.answers it.early it.point it.reached it.before (it.rest ++ more) (it.later ++ later) (it.late ++ rest) m' h' (prints_on-append it.point it.reached it.rest it.later it.late x g it.after more later rest m' h' then) c it.safe
      (es ++ more) (rs ++ later) (ap (λ (l : List ScriptEntry). l ++ more) it.entries ∙ append_assoc it.first it.rest more) (ap (λ (l : List Reply). l ++ later) it.replies ∙ append_assoc it.answers it.later later)

  -- what is safe among later ones is so among all
  pub safe_among-then : (m : WorldModel) (h : ChainHistory) (es : List ScriptEntry) (rs : List Reply) (text : List ℕ) (x : WorldModel) (g : ChainHistory) → PrintsOn set m h es rs text x g
      → (more : List ScriptEntry) (later : List Reply) (m' : WorldModel) (h' : ChainHistory)
      → (c : List ℕ) → IsSafeAmong set x g more later m' h' c → IsSafeAmong set m h (es ++ more) (rs ++ later) m' h' c
  safe_among-then m h es rs text x g so more later m' h' c it =
      safe_at m h (es ++ it.first) (rs ++ it.answers) (text ++ it.early) it.point it.reached (prints_on-append m h es rs text x g so it.first it.answers it.early it.point it.reached it.before) it.rest it.later it.late m' h' it.after c it.safe
      (es ++ more) (rs ++ later) (ap (λ (l : List ScriptEntry). es ++ l) it.entries ∙ sym (append_assoc es it.first it.rest)) (ap (λ (l : List Reply). rs ++ l) it.replies ∙ sym (append_assoc rs it.answers it.later))

  -- what is safe before an entry is so among those from it on
  pub safe_before : (m : WorldModel) (h : ChainHistory) (es : List ScriptEntry) (rs : List Reply) (text : List ℕ) (m' : WorldModel) (h' : ChainHistory) → PrintsOn set m h es rs text m' h' → (c : List ℕ) → IsSafe set.program set.vars set.slots h c → IsSafeAmong set m h es rs m' h' c
  safe_before m h es rs text m' h' so c safe = safe_at m h [] [] [] m h (refl, refl, refl) es rs text m' h' so c safe es rs refl refl

  -- and what is safe after the last one too
  pub safe_after : (m : WorldModel) (h : ChainHistory) (es : List ScriptEntry) (rs : List Reply) (text : List ℕ) (m' : WorldModel) (h' : ChainHistory) → PrintsOn set m h es rs text m' h' → (c : List ℕ) → IsSafe set.program set.vars set.slots h' c → IsSafeAmong set m h es rs m' h' c
  safe_after m h es rs text m' h' so c safe = safe_at m h es rs text m' h' so [] [] [] m' h' (refl, refl, refl) c safe es rs (sym (append-nil es)) (sym (append-nil rs))

module _ {D T S : Type 0} {d t s : _} (program : Program) where
  -- a crash between two entries leaves what is safe
  pub still : (w : World D T S d t s) → IsDevice (world_view w) → (h : ChainHistory) (m : WorldModel) → Carries program w h m → AtEachMoment (world_view w) (world_view w) (IsSafe program w.layout.vars w.layout.slots h)
  still w device h m has = record { each = λ k c left. has.store.device.each k c (device.only_now c k left) }

  -- no entry yet
  pub go_on-nil : (w : World D T S d t s) → IsDevice (world_view w) → (h : ChainHistory) (m : WorldModel) → Carries program w h m → EntriesGoOn program w h m [] [] w
  go_on-nil w device h m has = record {
    replies = [];
    end = m;
    reached = h;
    prints = (refl, refl, refl);
    carries = has;
    any_moment = record { each = λ k c left. ∣ safe_before (setting_of w program) m h [] [] [] m h (refl, refl, refl) c ((still w device h m has).each k c left) ∣₁ };
  }

  -- an event
  pub go_on-event : (w new : World D T S d t s) (h : ChainHistory) (m : WorldModel) (it : Playable) (r : Reply) (m' : WorldModel) → Allows (setting_of w program) m it.event r m' → Carries program new (history_after m it.event r m' h) m'
      → AtEachMoment (world_view w) (world_view new) (IsSafeIn program w.layout.vars w.layout.slots h (history_after m it.event r m' h)) → EntriesGoOn program w h m (entry.Event it ∷ []) (line (line_of r)) new
  go_on-event w new h m it r m' allowed has during =
      let set = setting_of w program in
      let h' = history_after m it.event r m' h in
      let es : List ScriptEntry = entry.Event it ∷ [] in
      let rs : List Reply = r ∷ [] in
      let prints = prints_event set m h it r m' allowed in
      record {
        replies = rs;
        end = m';
        reached = h';
        prints = prints;
        carries = has;
        any_moment = record {
          each = λ k c left. ∥∥₁_map (during.each k c left) (⊎_elim
              (λ earlier. safe_before set m h es rs (line (line_of r)) m' h' prints c earlier)
              (λ later. safe_after set m h es rs (line (line_of r)) m' h' prints c later));
        };
      }

  -- the state is printed
  pub go_on-show : (w : World D T S d t s) → IsDevice (world_view w) → (h : ChainHistory) (m : WorldModel) → Carries program w h m
      → EntriesGoOn program w h m (entry.Show ∷ []) (line (shown w.layout.vars m.status (present program m))) w
  go_on-show w device h m has =
      let prints = prints_show (setting_of w program) m h in
      record {
        replies = [];
        end = m;
        reached = h;
        prints = prints;
        carries = has;
        any_moment = record { each = λ k c left. ∣ safe_before (setting_of w program) m h (entry.Show ∷ []) [] (line (shown w.layout.vars m.status (present program m))) m h prints c ((still w device h m has).each k c left) ∣₁ };
      }

  -- entries and then others
  pub go_on-then : (w mid new : World D T S d t s) (h : ChainHistory) (m : WorldModel) (es more : List ScriptEntry) (text rest : List ℕ) → setting_of mid program ≡ setting_of w program
      → ((world_view new).keeps_model → (world_view mid).keeps_model) → ((world_view mid).keeps_model → (world_view w).moment ≤ (world_view mid).moment) → (P : List ℕ → Type 0) → Elapses (world_view mid) (world_view new) P
      → (one : EntriesGoOn program w h m es text mid) → EntriesGoOn program mid one.reached one.end more rest new → EntriesGoOn program w h m (es ++ more) (text ++ rest) new
  go_on-then w mid new h m es more text rest same model later P time one two =
      let set = setting_of w program in
      let prints = subst (λ (t : Setting). PrintsOn t one.end one.reached more two.replies rest two.end two.reached) same two.prints in
      let among : AtEachMoment (world_view mid) (world_view new) (λ c. ∥ IsSafeAmong set one.end one.reached more two.replies two.end two.reached c ∥₁) =
      subst (λ (t : Setting). AtEachMoment (world_view mid) (world_view new) (λ c. ∥ IsSafeAmong t one.end one.reached more two.replies two.end two.reached c ∥₁)) same two.any_moment in
      record {
        replies = one.replies ++ two.replies;
        end = two.end;
        reached = two.reached;
        prints = prints_on-append set m h es one.replies text one.end one.reached one.prints more two.replies rest two.end two.reached prints;
        carries = two.carries;
        any_moment = record {
          each = λ k c left. ⊎_elim
              (λ was. ∥∥₁_map (one.any_moment.each (model k) c was) (λ it. safe_among-more set m h es one.replies one.end one.reached more two.replies rest two.end two.reached prints c it))
              (λ is. ∥∥₁_map (among.each k c is) (λ it. safe_among-then set m h es one.replies text one.end one.reached one.prints more two.replies two.end two.reached c it))
              (either_time (world_view w) (world_view mid) (world_view new) P model later time k c left);
        };
      }

module _ {D T S : Type 0} {d t s : _} (w mid new : World D T S d t s) (kept : KeepsSetting w mid) (then : KeepsSetting mid new) (first : WritesInStore (numbers_of w) (world_view w) (world_view mid)) (second : WritesInStore (numbers_of mid) (world_view mid) (world_view new)) where
  -- what two parts of a run write
  pub then_within : WritesInStore (numbers_of w) (world_view w) (world_view new)
  then_within = WritesInStore-trans (numbers_of w) (world_view w) (world_view mid) (world_view new) then.model first (subst (λ (l : Layout). WritesInStore l (world_view mid) (world_view new)) kept.numbers second)

  -- entries and then others, and what was printed for them
  pub plays-then : (es more : List ScriptEntry) (IsOne IsTwo IsBoth : List ℕ → Type 0) → ((one two : List ℕ) → IsOne one → IsTwo two → IsBoth (one ++ two))
      → PlaysEntriesOn w es mid IsOne → PlaysEntriesOn mid more new IsTwo → PlaysEntriesOn w (es ++ more) new IsBoth
  plays-then es more IsOne IsTwo IsBoth both one two program means h m has keeps =
      let start = one program means h m has (then.model keeps) in
      let rest = two program (means_stay w mid program kept means) start.1.reached start.1.end start.1.carries keeps in
      (start.0 ++ rest.0, go_on-then program w mid new h m es more start.0 rest.0 (setting_stays w mid program kept) then.model first.time.later _ second.time start.1 rest.1, both start.0 rest.0 start.2 rest.2)

-- A world was opened on a store with the builtin steps and invariants, and entries were played on it.
module _ {D T S : Type 0} {d t s : _} (w new : World D T S d t s) (vars slots : ℕ) (old : DeviceView) (over : (numbers_of new).vars ≡ vars) (log : (numbers_of new).slots ≡ slots) (means : Means w (builtin_program vars)) (set : setting_of w (builtin_program vars) ≡ builtin_setting vars slots)
    (kept : KeepsSetting w new) (mends : Mending vars slots old (world_view w)) (within : WritesInStore (numbers_of w) (world_view w) (world_view new)) where
  pub plays_store : (h : ChainHistory) (opened : OpensStore (builtin_program vars) vars slots h old (Ok w)) (es : List ScriptEntry) (IsPrinted : List ℕ → Type 0) → PlaysEntriesOn w es new IsPrinted → (world_view new).keeps_model
      → (text : List ℕ) × PlaysStore vars slots h es (line (line_of (reply.Opened opened.found.0)) ++ text) old (world_view new) × IsPrinted text
  plays_store h opened es IsPrinted so keeps =
      let program = builtin_program vars in
      let n = opened.found.0 in
      let at = opening (state_at program vars h n) opened.found.1 old.failures in
      let it = so program means (history_found n h) at opened.found.3 keeps in
      let go = it.1 in
      let prints = subst (λ (x : Setting). PrintsOn x at (history_found n h) es go.replies it.0 go.end go.reached) set go.prints in
      let among : AtEachMoment (world_view w) (world_view new) (λ c. ∥ IsSafeAmong (builtin_setting vars slots) at (history_found n h) es go.replies go.end go.reached c ∥₁) =
      subst (λ (x : Setting). AtEachMoment (world_view w) (world_view new) (λ c. ∥ IsSafeAmong x at (history_found n h) es go.replies go.end go.reached c ∥₁)) set go.any_moment in (
        it.0,
        record {
          found = n;
          position = opened.found.1;
          prefix = opened.found.2;
          stands = opened.found.4.was;
          replies = go.replies;
          rest = it.0;
          end = go.end;
          reached = go.reached;
          printed = refl;
          prints = prints;
          store = subst (λ (v : ℕ). IsStore program v slots go.reached (world_view new)) over (subst (λ (k : ℕ). IsStore program (numbers_of new).vars k go.reached (world_view new)) log go.carries.store);
          any_moment = record {
            each = λ k c left. ⊎_elim
                (λ was. inl (opened.any_moment.each (kept.model k) c was))
                (λ is. inr (among.each k c is))
                (either_time old (world_view w) (world_view new) _ kept.model mends.recovers.elsewhere.time.later within.time k c left);
          };
          chain = λ earlier chain.
              grows (builtin_setting vars slots) at (history_found n h) (entry_events es) go.replies go.end go.reached (runs_of (builtin_setting vars slots) at (history_found n h) es go.replies it.0 go.end go.reached prints) vars slots earlier (just_opened (builtin_setting vars slots) old.seen n opened.found.1 old.failures) refl
              (subst (λ (x : Setting). IsChainAt vars slots earlier (just_opened x old.seen n opened.found.1 old.failures) (history_found n h) at) set (opened.found.5 earlier chain));
        },
        it.2,
      )
