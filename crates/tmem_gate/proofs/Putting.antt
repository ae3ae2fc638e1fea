-- What a crash leaves of a cell while it is written.
use Rattle.std.proofs.Common.{◌≡◌, inl, inr, ⊎_elim, ℕ, ◌+◌, ◌<◌, ◌≤◌, List, [], ◌∷◌, ◌++◌, length, take, drop, sym, ◌∙◌, ap, subst, arith, append_assoc}
use Rattle.std.specs.Prelude.{slice_range}
use Rattle.std.proofs.lemmas.List.{take_at, drop_at, take-take, length-take-le}
use Rattle.tmem_disk.specs.Disk.{DeviceView, IsDevice, overwritten, ReadsAs, LeavesOnly, AtEachMoment, Rewritten, IsSynced, SameOutside}
use Rattle.tmem_disk.proofs.Laws.{SameOutside-trans, SameOutside-wider, slice_range-overwritten, LeavesOnly-moment}
use Rattle.tmem_gate.specs.Gate.{IsOpenAt, IsClosed, StandsClosed, HasBody, IsClosedOver, IsOpenOver, IsWhole}
use Rattle.tmem_gate.proofs.Laws.{closed_before, body_behind, open_by_gate, whole_after, WritesWithin-wider, WritesWithin-trans}
use Rattle.tmem_gate.specs.Calls.{MadeBy, WritesWithin}
use Rattle.tmem_gate.specs.Cells.{LeftClosed, LeftOpen}
use Rattle.tmem_gate.specs.Changes.{WasMade, NotMade, InDoubt, Either, Puts}

-- the body of a cell lies within it
body_starts : (at : ℕ) → at ≤ at + 1
body_starts at = omega arith

body_ends : (at n : ℕ) → at + 1 + n ≤ at + (1 + n)
body_ends at n = omega arith

-- and so does its gate
gate_starts : (at : ℕ) → at ≤ at
gate_starts at = omega arith

gate_ends : (at n : ℕ) → at + 1 ≤ at + (1 + n)
gate_ends at n = omega arith

-- where a byte and a body after it end
byte_and_body : (at x : ℕ) (body : List ℕ) → at + 1 + length body ≡ at + length (x ∷ body)
byte_and_body at x body = omega arith

-- a call that writes behind a closed gate
module _ (old mid : DeviceView) (at : ℕ) (bytes : List ℕ) (device : IsDevice mid) (within : WritesWithin (at + 1) (length bytes) old mid) (closed : AtEachMoment old mid (IsClosed at)) where
  abbrev No : List ℕ → List ℕ → Type 0
  No = LeftClosed at (length bytes)

  abbrev Yes : List ℕ → List ℕ → Type 0
  Yes = LeftOpen at bytes old.seen

  while_put : AtEachMoment old mid (MadeBy No old)
  while_put = record {
    each = λ k c left.
        let from = within.any_moment.each k c left in
        (from.0, from.1, record { elsewhere = SameOutside-wider (at + 1) (length bytes) at (1 + length bytes) from.0 c (body_starts at) (body_ends at (length bytes)) from.2; gate = closed.each k c left });
  }

  once_put : LeavesOnly mid (MadeBy No old)
  once_put = LeavesOnly-moment old mid _ device within.time.later while_put

  wider : WritesWithin at (1 + length bytes) old mid
  wider = WritesWithin-wider (at + 1) (length bytes) at (1 + length bytes) (body_starts at) (body_ends at (length bytes)) old mid within

  -- where it failed at the write
  pub not_put : Puts at (1 + length bytes) No Yes old mid NotMade
  not_put = record { elsewhere = wider; stands = once_put; any_moment = while_put }

  -- where it failed later
  pub put_in_doubt : Puts at (1 + length bytes) No Yes old mid InDoubt
  put_in_doubt = record {
    elsewhere = wider;
    stands = record { each = λ k c left. let from = once_put.each k c left in (from.0, from.1, inl from.2) };
    any_moment = record { each = λ k c left. let from = while_put.each k c left in (from.0, from.1, inl from.2) };
  }

  -- and the call that opens the gate then
  module _ (new : DeviceView) (device_now : IsDevice new) (model : new.keeps_model → mid.keeps_model) (body : LeavesOnly mid (IsClosedOver at bytes)) (synced : IsSynced mid) (within_now : WritesWithin at 1 mid new) where
    made : new.keeps_model → (c : List ℕ) → Rewritten at 1 mid c → MadeBy (Either No Yes) old c
    made k c from =
        let before = once_put.each (model k) from.0 from.1 in
        let gate = SameOutside-wider at 1 at (1 + length bytes) from.0 c (gate_starts at) (gate_ends at (length bytes)) from.2 in
        let same = SameOutside-trans at (1 + length bytes) before.0 from.0 c before.2.elsewhere gate in
        let was = subst (λ (l : List ℕ). SameOutside at (1 + length bytes) old.seen l) (sym (synced (model k) from.0 from.1)) (wider.seen (model k)) in (
          before.0,
          before.1,
          ⊎_elim
              (λ shut. inl (record { elsewhere = same; gate = shut }))
              (λ open_now. inr (record { elsewhere = same; as_seen = SameOutside-trans at (1 + length bytes) old.seen from.0 c was gate; cell = open_now }))
              (whole_after at bytes from.0 c (body.each (model k) from.0 from.1).body from.2),
        )

    -- where it failed
    pub open_in_doubt : Puts at (1 + length bytes) No Yes old new InDoubt
    open_in_doubt = record {
      elsewhere = WritesWithin-trans at (1 + length bytes) old mid new model wider (WritesWithin-wider at 1 at (1 + length bytes) (gate_starts at) (gate_ends at (length bytes)) mid new within_now);
      stands = record { each = λ k c left. made k c (within_now.crash.each k c left) };
      any_moment = record {
        each = λ k c left. ⊎_elim
            (λ was. let before = while_put.each (model k) c was in (before.0, before.1, inl before.2))
            (λ from. made k c from)
            (within_now.time.nothing_else k old.moment c (within.time.later (model k)) left);
      };
    }

    pub is_put : LeavesOnly new (IsOpenOver at bytes) → Puts at (1 + length bytes) No Yes old new WasMade
    is_put is_open = record {
      elsewhere = open_in_doubt.elsewhere;
      stands = record {
        each = λ k c left.
            let from = open_in_doubt.stands.each k c left in
            (from.0, from.1, ⊎_elim (λ shut. absurd (shut.gate.not_open (is_open.each k c left).gate)) (λ it. it) from.2);
      };
      any_moment = open_in_doubt.any_moment;
    }

-- what was written behind the gate reads so
pub body_written : (old mid : DeviceView) (at : ℕ) (bytes : List ℕ) → IsDevice old → (mid.keeps_model → old.keeps_model) → at + 1 + length bytes ≤ old.capacity → ReadsAs mid (overwritten old.seen (at + 1) bytes) → mid.keeps_model → HasBody at bytes mid.seen
body_written old mid at bytes device model room reads k =
    let within : at + 1 + length bytes ≤ length old.seen = subst (λ (n : ℕ). at + 1 + length bytes ≤ n) (sym (device.seen_is_whole (model k))) room in
    ap (λ (l : List ℕ). slice_range l (at + 1) (at + 1 + length bytes)) (reads k) ∙ slice_range-overwritten old.seen (at + 1) bytes within

-- a body, and then the byte in front of it
pub byte_in_front : (at x : ℕ) (body old between new : List ℕ) → at + 1 ≤ length old → between ≡ overwritten old (at + 1) body → new ≡ overwritten between at (x ∷ []) → new ≡ overwritten old at (x ∷ body)
byte_in_front at x body old between new fits body_is byte_is =
    let rest : List ℕ = drop (at + 1 + length body) old in
    let long : length (take (at + 1) old) ≡ at + 1 = length-take-le (at + 1) old fits in
    let parted : between ≡ take (at + 1) old ++ (body ++ rest) = body_is ∙ append_assoc (take (at + 1) old) body rest in
    let le : at ≤ at + 1 = body_starts at in
    let front : take at between ≡ take at old =
    sym (take-take at (at + 1) between le) ∙ ap (take at) (ap (take (at + 1)) parted ∙ take_at (take (at + 1) old) (body ++ rest) (at + 1) long) ∙ take-take at (at + 1) old le in
    let behind : drop (at + 1) between ≡ body ++ rest = ap (drop (at + 1)) parted ∙ drop_at (take (at + 1) old) (body ++ rest) (at + 1) long in
    let offset : at + 1 + length body ≡ at + length (x ∷ body) = byte_and_body at x body in
    byte_is ∙ ap (λ (l : List ℕ). (l ++ x ∷ []) ++ drop (at + 1) between) front ∙ ap (λ (l : List ℕ). (take at old ++ x ∷ []) ++ l) behind
    ∙ sym (append_assoc (take at old ++ x ∷ []) body rest) ∙ ap (λ (l : List ℕ). l ++ rest) (append_assoc (take at old) (x ∷ []) body) ∙ ap (λ (k : ℕ). (take at old ++ x ∷ body) ++ drop k old) offset

-- a body that is written behind a gate that stands closed
module _ (old new : DeviceView) (at : ℕ) (bytes : List ℕ) (device : IsDevice old) (model : new.keeps_model → old.keeps_model) (closed : StandsClosed at old) (within : WritesWithin (at + 1) (length bytes) old new) where
  still_shut : new.keeps_model → (c : List ℕ) → Rewritten (at + 1) (length bytes) old c → IsClosed at c
  still_shut k c from = closed_before (at + 1) (length bytes) at from.0 c from.2 (omega arith) (closed.each (model k) from.0 from.1)

  pub shut_meanwhile : AtEachMoment old new (IsClosed at)
  shut_meanwhile = record { each = λ k c left. still_shut k c (within.any_moment.each k c left) }

  pub body_stands : at + 1 + length bytes ≤ old.capacity → ReadsAs new (overwritten old.seen (at + 1) bytes) → IsSynced new → LeavesOnly new (IsClosedOver at bytes)
  body_stands room reads synced = record {
    each = λ k c left. record {
      gate = still_shut k c (within.crash.each k c left);
      body = subst (λ (l : List ℕ). HasBody at bytes l) (sym (synced k c left)) (body_written old new at bytes device model room reads k);
    };
  }

-- a gate that is opened over a body
module _ (old new : DeviceView) (at : ℕ) (device : IsDevice old) (model : new.keeps_model → old.keeps_model) (within : WritesWithin at 1 old new) (body : List ℕ) (has : LeavesOnly old (HasBody at body)) where
  pub whole_meanwhile : AtEachMoment old new (IsWhole at body)
  whole_meanwhile = record { each = λ k c left. let from = within.any_moment.each k c left in whole_after at body from.0 c (has.each (model k) from.0 from.1) from.2 }

  pub open_stands : at < old.capacity → ReadsAs new (overwritten old.seen at (0xA5 ∷ [])) → IsSynced new → LeavesOnly new (IsOpenOver at body)
  open_stands room reads synced = record {
    each = λ k c left.
        let from = within.crash.each k c left in
        let fits : at + 1 ≤ length old.seen = omega (arith, room, device.seen_is_whole (model k)) in
        record {
          gate = subst (λ (l : List ℕ). IsOpenAt at l) (sym (synced k c left ∙ reads k)) (open_by_gate at old.seen fits);
          body = body_behind at (length body) from.0 c from.2 ∙ has.each (model k) from.0 from.1;
        };
  }
