-- Prefixes of a history, and the contents that represent the states after them.
use Rattle.std.proofs.Common.{◌≡◌, ◌⊎◌, inl, inr, ⊎_elim, ℕ, ◌+◌, ◌-◌, ◌≤◌, List, [], ◌∷◌, ◌++◌, length, take, refl, sym, ◌∙◌, ap, subst, arith, append-nil, length-append}
use Rattle.std.proofs.Math.Logic.{∥∥₁_elim, ∥∥₁_map, ∥∥₁_prop}
use Rattle.std.proofs.Math.Seq.{take-append-add}
use Rattle.std.proofs.Props.{props}
use Rattle.tmem_disk.specs.Disk.{DeviceView}
use Rattle.tmem_effect.specs.State.{State, first_state}
use Rattle.tmem_record.specs.Layout.{end_at}
use Rattle.tmem_tree.specs.declared.tx.Tx.{Tx}
use Rattle.tmem_tree.specs.declared.settled.Settled.{Settled}
use Rattle.tmem_tree.specs.declared.settled.Settled.TheVariants.{Committed, Seen, Retry, Aborted, Refused}
use Rattle.tmem_invariants.specs.Meanings.{IsSound}
use Rattle.tmem_core.specs.Program.{Program}
use Rattle.tmem_core.specs.Verdict.{serial_state, state_after, IsCommitted, AreCommitted}
use Rattle.tmem_core.specs.Following.{Follows}
use Rattle.tmem_core.proofs.Laws.{serial_state-append, count-committed, sound_after, same_order}
use Rattle.tmem_journal.specs.Calls.{FitsOn}
use Rattle.tmem_journal.specs.Mended.{Recovers, RecoveredBy}
use Rattle.tmem_journal.specs.Contents.{Position, HoldsState, ContentRepresents, ContentRepresentsEither}
use Rattle.tmem_world.specs.declared.held.Held.{Held}
use Rattle.tmem_world.specs.declared.held.Held.TheVariants.{With, Without}
use Rattle.tmem_world.specs.declared.world.World.{World}
use Rattle.tmem_world.specs.Parts.{held_disk, layout_in}
use Rattle.tmem_world.specs.WorldModel.{WorldModel, opening, cut}
use Rattle.tmem_world.specs.Represents.{IsNumbered, Represents, RepresentsCut, held_of, world_view}
use Rattle.tmem_world.specs.Chain.{ChainHistory, IsSafePrefix, IsSafe, IsStore, GoesOn, Carries, MayFollow, state_at, history_found}
use Rattle.tmem_world.proofs.Laws.{count_at}
use Rattle.tmem_world.proofs.Serial.{committed-take}

-- a beginning that ends in the second of two lists
pub take_behind : (xs ys : List Tx) (n k : ℕ) → n ≡ length xs + k → take n (xs ++ ys) ≡ xs ++ take k ys
take_behind xs ys n k is = ap (λ (j : ℕ). take j (xs ++ ys)) is ∙ take-append-add xs ys k

module _ (program : Program) where
  committed-append : (s : State) (txs more : List Tx) → AreCommitted program s txs → AreCommitted program (serial_state program s txs) more → AreCommitted program s (txs ++ more)
  committed-append s [] more are then = then
  committed-append s (t ∷ txs) more are then = (are.0, committed-append (state_after program s t) txs more are.1 then)

  committed-prop : (v : Settled) → IsProp (IsCommitted v)
  committed-prop (Committed number registers) = hlevel
  committed-prop (Seen at registers) = hlevel
  committed-prop Retry = hlevel
  committed-prop (Aborted code) = hlevel
  committed-prop (Refused name) = hlevel

  each-prop : (s : State) (txs : List Tx) → IsProp (AreCommitted program s txs)
  each-prop s [] = hlevel
  each-prop s (t ∷ txs) = hlevel (committed-prop, each-prop (state_after program s t) txs)

  module _ (vars : ℕ) (h : ChainHistory) where
    -- that a prefix is safe is one fact
    pub safe-prop : (n : ℕ) → IsProp (IsSafePrefix program vars h n)
    safe-prop n = hlevel (props, each-prop)

    -- a run that begins at a safe prefix goes on with the history that was found
    pub goes_on_from : (n : ℕ) (position : Position) (failures : ℕ) → IsSafePrefix program vars h n → GoesOn program vars (history_found n h) (opening (state_at program vars h n) position failures)
    goes_on_from n position failures safe = record {
      found = take n h.committed;
      each = safe.each;
      opened = refl;
      committed = sym (append-nil (take n h.committed));
      acknowledged = omega (arith, count_at program vars h n safe);
      durable = sym (count_at program vars h n safe);
      doubtful = sym (count_at program vars h n safe);
      present = refl;
    }

    module _ (slots : ℕ) where
      -- a content that represents one of two states, each of which is that after a safe prefix, is safe
      pub safe_either : (a b : State) (i j : ℕ) → a ≡ state_at program vars h i → b ≡ state_at program vars h j → IsSafePrefix program vars h i → IsSafePrefix program vars h j → (c : List ℕ) → ContentRepresentsEither vars slots a b c → IsSafe program vars slots h c
      safe_either a b i j is_a is_b safe_i safe_j c it = ∥∥₁_map it (λ (found : (p : Position) × (HoldsState vars slots p a c ⊎ HoldsState vars slots p b c)). ⊎_elim
          (λ (one : HoldsState vars slots found.0 a c). (i, safe_i, (found.0, subst (λ (s : State). ContentRepresents vars slots found.0 s c) is_a ∣ one ∣₁)))
          (λ (other : HoldsState vars slots found.0 b c). (j, safe_j, (found.0, subst (λ (s : State). ContentRepresents vars slots found.0 s c) is_b ∣ other ∣₁)))
          found.1)

      -- what represents each state that it represented is safe too
      safe_mended : (b c : List ℕ) → Recovers vars slots b c → IsSafe program vars slots h b → IsSafe program vars slots h c
      safe_mended b c recovers it = ∥∥₁_elim it ∥∥₁_prop (λ (x : (n : ℕ) × IsSafePrefix program vars h n × ((p : Position) × ContentRepresents vars slots p (state_at program vars h n) b)).
          ∥∥₁_map (recovers (state_at program vars h x.0) (∥∥₁_map x.2.1 (λ held. (x.2.0, held)))) (λ y. (x.0, x.1, (y.0, ∣ y.1 ∣₁))))

      -- so it is of each content that a crash of a store might have left
      pub mended_safe : (d : DeviceView) → IsStore program vars slots h d → d.keeps_model → (c : List ℕ) → RecoveredBy vars slots d c → IsSafe program vars slots h c
      mended_safe d store keeps c from = safe_mended from.0 c from.2 (store.device.each keeps from.0 from.1)

    module _ (m : WorldModel) (goes : GoesOn program vars h m) where
      -- how many were committed before the opening
      pub count_found : m.opened.count ≡ length goes.found
      count_found = omega (arith, ap (λ (s : State). s.count) goes.opened, count-committed program (first_state vars) goes.found goes.each)

      take_found : (n : ℕ) → m.opened.count ≤ n → take n h.committed ≡ goes.found ++ take (n - m.opened.count) m.committed
      take_found n from = ap (take n) goes.committed ∙ take_behind goes.found m.committed n (n - m.opened.count) (omega (arith, count_found, from))

      -- the state after a prefix of the history is that of the run, cut there
      pub state_found : (n : ℕ) → m.opened.count ≤ n → state_at program vars h n ≡ cut program m n
      state_found n from =
          let k = n - m.opened.count in
          ap (serial_state program (first_state vars)) (take_found n from) ∙ serial_state-append program (first_state vars) goes.found (take k m.committed)
          ∙ ap (λ (s : State). serial_state program s (take k m.committed)) (sym goes.opened)

      module _ (numbers : IsNumbered program m) where
        -- what is durable is a safe prefix, and what may be durable in its place
        pub safe_from : (n : ℕ) → ∥ (n ≡ h.durable) ⊎ (n ≡ h.doubtful) ∥₁ → m.durable ≤ n → n ≤ m.opened.count + length m.committed → IsSafePrefix program vars h n
        safe_from n cut from to =
            let low : m.opened.count ≤ n = omega (arith, numbers.opened, from) in
            let k = n - m.opened.count in
            record {
              cut = cut;
              acknowledged = omega (arith, goes.acknowledged, from);
              committed = omega (arith, ap length goes.committed, length-append goes.found m.committed, count_found, to);
              each = subst (AreCommitted program (first_state vars)) (sym (take_found n low))
                  (committed-append (first_state vars) goes.found (take k m.committed) goes.each
                  (subst (λ (s : State). AreCommitted program s (take k m.committed)) goes.opened (committed-take program k m.opened m.committed numbers.each)));
              sound = subst (λ (s : State). IsSound program.tests program.names s.names s.values) (sym (state_found n low)) (numbers.sound n low to);
            }

        -- what represents the serial order cut at the durable number or at the doubtful one is safe
        pub point_safe : (slots : ℕ) (c : List ℕ) → RepresentsCut program vars slots m c → IsSafe program vars slots h c
        point_safe slots c it =
            let within : m.durable ≤ m.opened.count + length m.committed = omega (arith, numbers.durable, numbers.doubtful) in
            let from : m.opened.count ≤ m.doubtful = omega (arith, numbers.opened, numbers.durable) in
            safe_either slots (cut program m m.durable) (cut program m m.doubtful) m.durable m.doubtful (sym (state_found m.durable numbers.opened)) (sym (state_found m.doubtful from))
            (safe_from m.durable ∣ inl (sym goes.durable) ∣₁ (omega arith) within) (safe_from m.doubtful ∣ inr (sym goes.doubtful) ∣₁ numbers.durable numbers.doubtful) c it

-- a device that a world holds has room for its layout
room_in : {D T : Type 0} {d t : _} (h : Held D T d t) → end_at (layout_in h).vars (layout_in h).slots ≤ (d.view (held_disk h)).capacity
room_in (With o) = o.journal.room
room_in (Without left) = left.room

module _ {D T S : Type 0} {d t s : _} (w : World D T S d t s) where
  pub fits_in : FitsOn w.layout.vars w.layout.slots (world_view w).capacity
  fits_in = record {
    layout = w.layout.fits;
    room = subst (λ (v : ℕ). end_at v w.layout.slots ≤ (world_view w).capacity) w.same_vars
        (subst (λ (n : ℕ). end_at (layout_in (held_of w)).vars n ≤ (world_view w).capacity) w.same_slots (room_in (held_of w)));
  }

  -- a world at a point of a run that goes on with a history carries it
  pub carries : (program : Program) (h : ChainHistory) (m : WorldModel) → Represents program w m → GoesOn program w.layout.vars h m → Carries program w h m
  carries program h m point goes = record {
    point = point;
    history = goes;
    store = record { fits = fits_in; device = record { each = λ keeps c left. point_safe program w.layout.vars h m goes point.numbers w.layout.slots c (point.device.each keeps c left) } };
  }

-- what is a safe prefix of one program's is one of the next one's, and the state after it is the same
module _ (old new : Program) (vars : ℕ) (h : ChainHistory) (n : ℕ) (safe : IsSafePrefix old vars h n) (follows : Follows old (first_state vars) (take n h.committed) new) where
  both : AreCommitted new (first_state vars) (take n h.committed) × (state_at new vars h n ≡ state_at old vars h n)
  both = same_order old new (first_state vars) (take n h.committed) safe.each safe.sound.there follows

  prefix_following : IsSafePrefix new vars h n
  prefix_following = record {
    cut = safe.cut;
    acknowledged = safe.acknowledged;
    committed = safe.committed;
    each = both.0;
    sound = subst (λ (s : State). IsSound new.tests new.names s.names s.values) (sym both.1) (sound_after old new (first_state vars) (take n h.committed) (state_at old vars h n).values follows safe.sound);
  }

-- so what represented the state after the one represents that after the other
pub safe_following : (old new : Program) (vars slots : ℕ) (h : ChainHistory) → MayFollow old vars h new → (c : List ℕ) → (n : ℕ) × IsSafePrefix old vars h n × ((position : Position) × ContentRepresents vars slots position (state_at old vars h n) c)
    → (n : ℕ) × IsSafePrefix new vars h n × ((position : Position) × ContentRepresents vars slots position (state_at new vars h n) c)
safe_following old new vars slots h follows c it =
    let so = follows it.0 it.1 in (
      it.0,
      prefix_following old new vars h it.0 it.1 so,
      (it.2.0, subst (λ (s : State). ContentRepresents vars slots it.2.0 s c) (sym (both old new vars h it.0 it.1 so).1) it.2.1),
    )
