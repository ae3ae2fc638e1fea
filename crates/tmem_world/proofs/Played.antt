-- What holds of each event holds of a list of events that were played.
use Rattle.std.proofs.Common.{◌≡◌, ⊎_elim, ℕ, List, [], ◌∷◌, ◌++◌, refl, sym, ◌∙◌, ap, subst, arith}
use Rattle.std.proofs.Math.Logic.{∥∥₁_map}
use Rattle.tmem_disk.specs.Disk.{IsDevice, AtEachMoment}
use Rattle.tmem_disk.specs.declared.disk.Disk as disk
use Rattle.tmem_disk.proofs.Laws.{either_time}
use Rattle.tmem_record.specs.declared.layout.Layout.{Layout}
use Rattle.tmem_event.specs.declared.event.Event.{Event}
use Rattle.tmem_event.specs.declared.event.Reply.{Reply}
use Rattle.tmem_world.specs.declared.world.World.{World}
use Rattle.tmem_world.specs.AnyDevice.{RunOnAnyDevice, PlaysOnAnyDevice}
use Rattle.tmem_world.specs.Chain.{ChainHistory, IsSafe, IsSafeWithin, Carries, RunsOn, PlaysOn, history_after}
use Rattle.tmem_world.specs.EachPlayed.{PlaysEach}
use Rattle.tmem_world.specs.OneByOne.{OneByOne}
use Rattle.tmem_world.specs.Replies.{failures_by_all}
use Rattle.tmem_world.specs.Represents.{Represents, KeepsSetting, Plays, WritesInStore, numbers_of, world_disk, setting_of, world_view}
use Rattle.tmem_world.specs.WorldModel.{Setting, WorldModel, Allows, Run}
use Rattle.tmem_world.proofs.AnyDevicePoints.{steps}
use Rattle.tmem_world.proofs.Histories.{moves}
use Rattle.tmem_world.proofs.Laws.{KeepsSetting-refl, KeepsSetting-trans, WritesInStore-refl, WritesInStore-trans, means_stay, setting_stays, rests_on, grows}

-- one event more
pub one_by_one-append : {X : Type 0} (One : X → Event → Reply → X → Type 0) (x : X) (es : List Event) (rs : List Reply) (y : X) (e : Event) (r : Reply) (z : X) → OneByOne One x es rs y → One y e r z → OneByOne One x (es ++ e ∷ []) (rs ++ r ∷ []) z
one_by_one-append {X} One x [] [] y e r z so is = (z, subst (λ (q : X). One q e r z) so is, refl)
one_by_one-append One x [] (q ∷ rs) y e r z so is = absurd so
one_by_one-append One x (f ∷ es) [] y e r z so is = absurd so
one_by_one-append One x (f ∷ es) (q ∷ rs) y e r z so is = (so.0, so.1, one_by_one-append One so.0 es rs y e r z so.2 is)

module _ (set : Setting) where
  -- what is safe before the first event is so within all of them
  safe_first : (m : WorldModel) (h : ChainHistory) (es : List Event) (rs : List Reply) (m' : WorldModel) (h' : ChainHistory) → RunsOn set m h es rs m' h' → (c : List ℕ) → IsSafe set.program set.vars set.slots h c → IsSafeWithin set m h es rs m' h' c
  safe_first m h es rs m' h' so c safe = record {
    first = [];
    rest = es;
    answers = [];
    later = rs;
    events = refl;
    replies = refl;
    point = m;
    reached = h;
    before = (refl, refl);
    after = so;
    safe = safe;
  }

  -- and what is safe within the later ones
  safe_later : (m : WorldModel) (h : ChainHistory) (e : Event) (r : Reply) (x : WorldModel) → Allows set m e r x → (es : List Event) (rs : List Reply) (m' : WorldModel) (h' : ChainHistory) (c : List ℕ) → IsSafeWithin set x (history_after m e r x h) es rs m' h' c
      → IsSafeWithin set m h (e ∷ es) (r ∷ rs) m' h' c
  safe_later m h e r x allowed es rs m' h' c within = record {
    first = e ∷ within.first;
    rest = within.rest;
    answers = r ∷ within.answers;
    later = within.later;
    events = ap (λ (l : List Event). e ∷ l) within.events;
    replies = ap (λ (l : List Reply). r ∷ l) within.replies;
    point = within.point;
    reached = within.reached;
    before = (x, allowed, within.before);
    after = within.after;
    safe = within.safe;
  }

module _ {D T S : Type 0} {d t s : _} where
  pub all_kept : (w : World D T S d t s) (es : List Event) (rs : List Reply) (new : World D T S d t s) → PlaysEach w es rs new → KeepsSetting w new
  all_kept w [] [] new is = subst (KeepsSetting w) (sym is) (KeepsSetting-refl w)
  all_kept w [] (r ∷ rs) new is = absurd is
  all_kept w (e ∷ es) [] new is = absurd is
  all_kept w (e ∷ es) (r ∷ rs) new it = KeepsSetting-trans w it.0 new it.1.answered.kept (all_kept it.0 es rs new it.2)

  pub all_failures : (w : World D T S d t s) (es : List Event) (rs : List Reply) (new : World D T S d t s) → PlaysEach w es rs new → (world_view new).failures ≡ failures_by_all rs (world_view w).failures
  all_failures w [] [] new is = ap (λ (x : World D T S d t s). (world_view x).failures) is
  all_failures w [] (r ∷ rs) new is = absurd is
  all_failures w (e ∷ es) [] new is = absurd is
  all_failures w (e ∷ es) (r ∷ rs) new it = all_failures it.0 es rs new it.2 ∙ ap (failures_by_all rs) it.1.answered.failures

  pub all_run : (w : World D T S d t s) (es : List Event) (rs : List Reply) (new : World D T S d t s) → PlaysEach w es rs new → Plays w es rs new
  all_run w [] [] new is = λ program means m at keeps. (m, refl, subst (λ (x : World D T S d t s). Represents program x m) (sym is) at, omega arith, λ number none. absurd none)
  all_run w [] (r ∷ rs) new is = absurd is
  all_run w (e ∷ es) [] new is = absurd is
  all_run w (e ∷ es) (r ∷ rs) new it = λ program means m at keeps.
      let mid = it.0 in
      let later_keeps = (all_kept mid es rs new it.2).model keeps in
      let now = it.1.answered.step program means m at (rests_on _ e later_keeps) in
      let by = moves (setting_of w program) m at.numbers e r now.0 now.1 in
      let later = all_run mid es rs new it.2 program (means_stay w mid program it.1.answered.kept means) now.0 now.2 keeps in (
        later.0,
        (now.0, now.1, subst (λ (x : Setting). Run x now.0 es rs later.0) (setting_stays w mid program it.1.answered.kept) later.1),
        later.2,
        omega (arith, by.durable, later.3),
        λ number is. ⊎_elim (λ here. omega (arith, here, by.acknowledged, later.3)) (later.4 number) is,
      )

  pub all_on_any_device : (w : World D T S d t s) (es : List Event) (rs : List Reply) (new : World D T S d t s) → PlaysEach w es rs new → PlaysOnAnyDevice w es rs new
  all_on_any_device w [] [] new is = λ program means m at. (m, refl, subst (λ (x : World D T S d t s). Represents program x m) (sym is) at)
  all_on_any_device w [] (r ∷ rs) new is = absurd is
  all_on_any_device w (e ∷ es) [] new is = absurd is
  all_on_any_device w (e ∷ es) (r ∷ rs) new it = λ program means m at.
      let mid = it.0 in
      let then = means_stay w mid program it.1.answered.kept means in
      let now = steps program w mid m at then e r means it.1.answered.step it.1.answered.reopened in
      let later = all_on_any_device mid es rs new it.2 program then now.0 now.2 in
      (later.0, (now.0, now.1, subst (λ (x : Setting). RunOnAnyDevice x now.0 es rs later.0) (setting_stays w mid program it.1.answered.kept) later.1), later.2)

module _ {D T S : Type 0} {d : disk.Ghosts D} {t s : _} (device : (x : D) → IsDevice (d.view x)) where
  pub all_elsewhere : (w : World D T S d t s) (es : List Event) (rs : List Reply) (new : World D T S d t s) → PlaysEach w es rs new → WritesInStore (numbers_of w) (world_view w) (world_view new)
  all_elsewhere w [] [] new is = subst (λ (x : World D T S d t s). WritesInStore (numbers_of w) (world_view w) (world_view x)) (sym is) (WritesInStore-refl (numbers_of w) (world_view w) (device (world_disk w)))
  all_elsewhere w [] (r ∷ rs) new is = absurd is
  all_elsewhere w (e ∷ es) [] new is = absurd is
  all_elsewhere w (e ∷ es) (r ∷ rs) new it =
      let mid = it.0 in
      WritesInStore-trans (numbers_of w) (world_view w) (world_view mid) (world_view new) (all_kept mid es rs new it.2).model it.1.answered.elsewhere
      (subst (λ (l : Layout). WritesInStore l (world_view mid) (world_view new)) it.1.answered.kept.numbers (all_elsewhere mid es rs new it.2))

  pub all_on : (w : World D T S d t s) (es : List Event) (rs : List Reply) (new : World D T S d t s) → PlaysEach w es rs new → PlaysOn w es rs new
  all_on w [] [] new is = λ program means h m has keeps.
      let set = setting_of w program in (
        h,
        m,
        (refl, refl),
        subst (λ (x : World D T S d t s). Carries program x h m) (sym is) has,
        subst (λ (x : World D T S d t s). AtEachMoment (world_view w) (world_view x) (λ c. ∥ IsSafeWithin set m h [] [] m h c ∥₁)) (sym is)
            (record { each = λ k c left. ∣ safe_first set m h [] [] m h (refl, refl) c (has.store.device.each k c ((device (world_disk w)).only_now c k left)) ∣₁ }),
        grows set m h [] [] m h (refl, refl),
      )
  all_on w [] (r ∷ rs) new is = absurd is
  all_on w (e ∷ es) [] new is = absurd is
  all_on w (e ∷ es) (r ∷ rs) new it = λ program means h m has keeps.
      let mid = it.0 in
      let set = setting_of w program in
      let same = setting_stays w mid program it.1.answered.kept in
      let model = (all_kept mid es rs new it.2).model in
      let now = it.1.chain program means h m has (model keeps) in
      let x = now.0 in
      let g = history_after m e r x h in
      let later = all_on mid es rs new it.2 program (means_stay w mid program it.1.answered.kept means) g x now.2 keeps in
      let h' = later.0 in
      let m' = later.1 in
      let runs = subst (λ (y : Setting). RunsOn y x g es rs m' h') same later.2 in
      let during = subst (λ (y : Setting). AtEachMoment (world_view mid) (world_view new) (λ c. ∥ IsSafeWithin y x g es rs m' h' c ∥₁)) same later.4 in
      let all : RunsOn set m h (e ∷ es) (r ∷ rs) m' h' = (x, now.1, runs) in (
        h',
        m',
        all,
        later.3,
        record {
          each = λ k c left. ⊎_elim
              (λ was. ∥∥₁_map (now.3.each (model k) c was) (⊎_elim
              (λ safe. safe_first set m h (e ∷ es) (r ∷ rs) m' h' all c safe)
              (λ safe. safe_later set m h e r x now.1 es rs m' h' c (safe_first set x g es rs m' h' runs c safe))))
              (λ is. ∥∥₁_map (during.each k c is) (safe_later set m h e r x now.1 es rs m' h' c))
              (either_time (world_view w) (world_view mid) (world_view new) _ model it.1.answered.elsewhere.time.later (all_elsewhere mid es rs new it.2).time k c left);
        },
        grows set m h (e ∷ es) (r ∷ rs) m' h' all,
      )
