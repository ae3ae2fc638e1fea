-- What a crash leaves while stale gates are closed one after another.
use Rattle.std.proofs.Common.{◌≡◌, ◌⊎◌, inl, inr, ⊎_elim, ℕ, ◌+◌, ◌<◌, ◌≤◌, Bool, true, false, List, length, refl, sym, ◌∙◌, ap, subst, arith}
use Rattle.std.specs.Prelude.{slice_get, slice_range}
use Rattle.std.proofs.lemmas.Bool.{cases_lt, cases_eq, false≢true}
use Rattle.tmem_disk.specs.Disk.{DeviceView, IsDevice, ReadsAs, LeavesOnly, AtEachMoment, Elapses, IsSynced, SameOutside}
use Rattle.tmem_disk.proofs.Laws.{SameOutside-refl, SameOutside-trans, SameOutside-wider, slice_get-before, slice_get-after, slice_range-before, slice_range-after, LeavesOnly-moment, LeavesOnly-synced, LeavesOnly-after, AtEachMoment-elapsed, AtEachMoment-trans, Elapses-more, Elapses-trans}
use Rattle.tmem_gate.specs.Calls.{OnlyReads, WritesWithin, MadeBy}
use Rattle.tmem_gate.specs.Gate.{IsOpenAt, IsClosed, IsOpenOver}
use Rattle.tmem_gate.proofs.Laws.{gate_cases, closed_along, closed_before, no_time, by_look, OnlyReads-trans, WritesWithin-refl, WritesWithin-wider, WritesWithin-trans}
use Rattle.tmem_record.specs.Layout.{slot_at, end_at}
use Rattle.tmem_record.specs.Spelling.{number_bytes}
use Rattle.tmem_record.proofs.Laws.{length-number_bytes}
use Rattle.tmem_redolog.specs.Log.{IsClosedOrStale}
use Rattle.tmem_redolog.specs.Closes.{bytes_from, IsNoOpenGate, Keeps, ReadClosed, Closes}
use Rattle.tmem_redolog.proofs.Logs.{held_before}

-- a gate lies within a device that has room for each slot
pub gate_fits : (vars slots k at room fits : ℕ) → k < slots → at ≡ slot_at vars k → end_at vars slots ≤ room → fits ≡ room → at < fits
gate_fits vars slots k at room fits more there has same = omega (arith, more, there, has, same)

-- what is said under the premise alone
pub reads_only_given : (old new : DeviceView) → (new.keeps_model → OnlyReads old new) → OnlyReads old new
reads_only_given old new given = record {
  seen = λ k. (given k).seen k;
  crash = record { each = λ k c left. (given k).crash.each k c left };
  time = record {
    later = λ k. (given k).time.later k;
    nothing_else = λ k t c since left. (given k).time.nothing_else k t c since left;
    keeps = λ k t c since left. (given k).time.keeps k t c since left;
    before_or_since = λ k t c since left. (given k).time.before_or_since k t c since left;
  };
}

-- The second content is the first but for the open gates of the slots from one to another: a closed one stays closed, and
-- what carries a generation behind each of them stays.
pub record Aside (vars slots from to : ℕ) (b c : List ℕ) : Type 0 where
  pub elsewhere : SameOutside (slot_at vars from) (bytes_from from slots) b c
  pub closed : (k : ℕ) → from ≤ k → k < slots → IsClosed (slot_at vars k) b → IsClosed (slot_at vars k) c
  pub generation : (k : ℕ) → from ≤ k → k < slots → slice_range c (slot_at vars k + 1) (slot_at vars k + 9) ≡ slice_range b (slot_at vars k + 1) (slot_at vars k + 9)
  pub others : (i : ℕ) → IsNoOpenGate vars slots from b i → slice_get c i ≡ slice_get b i
  pub not_yet : (k : ℕ) → to ≤ k → k < slots → slice_get c (slot_at vars k) ≡ slice_get b (slot_at vars k)

-- a content is aside of itself
Aside-refl : (vars slots from to : ℕ) (c : List ℕ) → Aside vars slots from to c c
Aside-refl vars slots from to c = record {
  elsewhere = SameOutside-refl (slot_at vars from) (bytes_from from slots) c;
  closed = λ k above below is. is;
  generation = λ k above below. refl;
  others = λ i none. refl;
  not_yet = λ k above below. refl;
}

Aside-further : (vars slots from k : ℕ) (b c : List ℕ) → Aside vars slots from k b c → Aside vars slots from (k + 1) b c
Aside-further vars slots from k b c aside = record {
  elsewhere = aside.elsewhere;
  closed = aside.closed;
  generation = aside.generation;
  others = aside.others;
  not_yet = λ j above below. aside.not_yet j (omega (arith, above)) below;
}

-- a slot that is another one lies before or behind it
other_slot : (j k : ℕ) → (j ≡ k) ⊎ ((j < k) ⊎ (k < j))
other_slot j k = ⊎_elim (λ same. inl same) (λ other. inr (⊎_elim (λ below. inl below) (λ not_below. inr (omega (arith, not_below, other))) (cases_lt j k))) (cases_eq j k)

-- one more gate of an open slot is written
module _ (vars slots from k : ℕ) (low : from ≤ k) (high : k < slots) (b m c : List ℕ) (open_now : IsOpenAt (slot_at vars k) b) (aside : Aside vars slots from k b m) (same : SameOutside (slot_at vars k) 1 m c) where
  gate_of : (j : ℕ) → (j < k) ⊎ (k < j) → slice_get c (slot_at vars j) ≡ slice_get m (slot_at vars j)
  gate_of j (inl below) = slice_get-before (slot_at vars k) 1 m c (slot_at vars j) (omega (arith, below)) same
  gate_of j (inr above) = slice_get-after (slot_at vars k) 1 m c (slot_at vars j) (omega (arith, above)) same

  behind_gate : (j : ℕ) → (j ≡ k) ⊎ ((j < k) ⊎ (k < j)) → slice_range c (slot_at vars j + 1) (slot_at vars j + 9) ≡ slice_range m (slot_at vars j + 1) (slot_at vars j + 9)
  behind_gate j (inl is) = slice_range-after (slot_at vars k) 1 m c (slot_at vars j + 1) (slot_at vars j + 9) (omega (arith, is)) same
  behind_gate j (inr (inl below)) = slice_range-before (slot_at vars k) 1 m c (slot_at vars j + 1) (slot_at vars j + 9) (omega (arith, below)) same
  behind_gate j (inr (inr above)) = slice_range-after (slot_at vars k) 1 m c (slot_at vars j + 1) (slot_at vars j + 9) (omega (arith, above)) same

  still_shut : (j : ℕ) → from ≤ j → j < slots → IsClosed (slot_at vars j) b → (j ≡ k) ⊎ ((j < k) ⊎ (k < j)) → IsClosed (slot_at vars j) c
  still_shut j above below is (inl here) = absurd (is.not_open (subst (λ (n : ℕ). IsOpenAt (slot_at vars n) b) (sym here) open_now))
  still_shut j above below is (inr other) = closed_along (gate_of j other) (aside.closed j above below is)

  at_other : (i : ℕ) → (i < slot_at vars k) ⊎ (slot_at vars k ≤ i) → (i ≡ slot_at vars k → ⊥) → slice_get c i ≡ slice_get m i
  at_other i (inl below) other = slice_get-before (slot_at vars k) 1 m c i below same
  at_other i (inr above) other = slice_get-after (slot_at vars k) 1 m c i (omega (arith, above, other)) same

  Aside-next : Aside vars slots from (k + 1) b c
  Aside-next = record {
    elsewhere = SameOutside-trans (slot_at vars from) (bytes_from from slots) b m c aside.elsewhere
        (SameOutside-wider (slot_at vars k) 1 (slot_at vars from) (bytes_from from slots) m c (omega (arith, low)) (omega (arith, low, high)) same);
    closed = λ j above below is. still_shut j above below is (other_slot j k);
    generation = λ j above below. behind_gate j (other_slot j k) ∙ aside.generation j above below;
    others = λ i none. at_other i (cases_lt i (slot_at vars k)) (none k low high open_now) ∙ aside.others i none;
    not_yet = λ j above below. gate_of j (inr (omega (arith, above))) ∙ aside.not_yet j (omega (arith, above)) below;
  }

-- what is aside keeps each log that ends before those slots
keeps : (vars slots generation used to : ℕ) (b c : List ℕ) → Aside vars slots used to b c → Keeps vars slots generation used b c
keeps vars slots generation used to b c aside = record {
  elsewhere = aside.elsewhere;
  closed = aside.closed;
  others = aside.others;
  log = λ v image batches long holds. record {
    generation_fits = holds.generation_fits;
    fits = holds.fits;
    held = held_before vars used (bytes_from used slots) b c aside.elsewhere v generation 0 image.count batches (omega (arith, long)) holds.held;
    behind = λ k above below. stale_too k (omega (arith, long, above)) below (holds.behind k above below);
    within = holds.within;
  };
}
  where
    over : (k lesser : ℕ) → used ≤ k → k < slots → IsOpenOver (slot_at vars k) (number_bytes 8 lesser) b → IsOpenAt (slot_at vars k) c → IsOpenOver (slot_at vars k) (number_bytes 8 lesser) c
    over k lesser above below cell gate =
        let at = slot_at vars k in
        let n : at + 1 + length (number_bytes 8 lesser) ≡ at + 9 = omega (arith, length-number_bytes 8 lesser) in
        record { gate = gate; body = ap (λ (e : ℕ). slice_range c (at + 1) e) n ∙ aside.generation k above below ∙ sym (ap (λ (e : ℕ). slice_range b (at + 1) e) n) ∙ cell.body }

    stale_too : (k : ℕ) → used ≤ k → k < slots → IsClosedOrStale generation (slot_at vars k) b → IsClosedOrStale generation (slot_at vars k) c
    stale_too k above below (inl shut) = inl (aside.closed k above below shut)
    stale_too k above below (inr it) = ⊎_elim (λ gate. inr (it.0, it.1, over k it.0 above below it.2 gate)) (λ shut. inl shut) (gate_cases (slot_at vars k) c)

-- What closing the gates from one slot to another does to the device: a gate is written where it reads open.
pub record Sets (vars slots from to : ℕ) (old now : DeviceView) : Type 0 where
  pub model : now.keeps_model → old.keeps_model
  pub within : WritesWithin (slot_at vars from) (bytes_from from slots) old now
  pub seen : now.keeps_model → Aside vars slots from to old.seen now.seen
  pub time : IsSynced old → Elapses old now (Aside vars slots from to old.seen)

-- nothing is done yet
pub Sets-refl : (vars slots from : ℕ) (d : DeviceView) → IsDevice d → Sets vars slots from from d d
Sets-refl vars slots from d device = record {
  model = λ k. k;
  within = WritesWithin-refl (slot_at vars from) (bytes_from from slots) d device;
  seen = λ k. Aside-refl vars slots from from d.seen;
  time = λ synced. no_time d (Aside vars slots from from d.seen);
}

module _ (vars slots from to : ℕ) (old now : DeviceView) (device : IsDevice old) (device_now : IsDevice now) (sets : Sets vars slots from to old now) where
  -- what a crash leaves then
  sets_left : IsSynced old → LeavesOnly now (Aside vars slots from to old.seen)
  sets_left synced = LeavesOnly-moment old now _ device_now sets.within.time.later
      (AtEachMoment-elapsed old now _ _ device sets.model (sets.time synced) (LeavesOnly-synced old _ synced (λ k. Aside-refl vars slots from to old.seen)) (λ k c it. it))

-- one gate more
module _ (vars slots from k : ℕ) (low : from ≤ k) (high : k < slots) (old mid new : DeviceView) (device : IsDevice old) (device_mid : IsDevice mid) (model : new.keeps_model → mid.keeps_model)
    (before : Sets vars slots from k old mid) (within : WritesWithin (slot_at vars k) 1 mid new) (idle : IsClosed (slot_at vars k) mid.seen → OnlyReads mid new) where
  -- the gate reads as it did before
  pub shut_in : mid.keeps_model → IsClosed (slot_at vars k) old.seen → IsClosed (slot_at vars k) mid.seen
  shut_in keeps shut = closed_along ((before.seen keeps).not_yet k (omega arith) high) shut

  -- where it read closed, it is not written
  idle_given : IsClosed (slot_at vars k) old.seen → OnlyReads mid new
  idle_given shut = reads_only_given mid new (λ keeps. idle (shut_in (model keeps) shut))

  seen_by : IsOpenAt (slot_at vars k) old.seen ⊎ IsClosed (slot_at vars k) old.seen → new.keeps_model → Aside vars slots from (k + 1) old.seen new.seen
  seen_by (inl open_now) keeps = Aside-next vars slots from k low high old.seen mid.seen new.seen open_now (before.seen (model keeps)) (within.seen keeps)
  seen_by (inr shut) keeps = Aside-further vars slots from k old.seen new.seen (subst (λ (l : List ℕ). Aside vars slots from k old.seen l) (sym ((idle_given shut).seen keeps)) (before.seen (model keeps)))

  since_by : IsOpenAt (slot_at vars k) old.seen ⊎ IsClosed (slot_at vars k) old.seen → IsSynced old → Elapses mid new (Aside vars slots from (k + 1) old.seen)
  since_by (inl open_now) synced = Elapses-more mid new _ _ within.time (λ keeps c it. Aside-next vars slots from k low high old.seen it.0 c open_now ((sets_left vars slots from k old mid device device_mid before synced).each (model keeps) it.0 it.1) it.2)
  since_by (inr shut) synced = Elapses-more mid new _ _ (idle_given shut).time (λ keeps c it. Aside-further vars slots from k old.seen c ((sets_left vars slots from k old mid device device_mid before synced).each (model keeps) c it))

  pub Sets-next : Sets vars slots from (k + 1) old new
  Sets-next = record {
    model = λ keeps. before.model (model keeps);
    within = WritesWithin-trans (slot_at vars from) (bytes_from from slots) old mid new model before.within
        (WritesWithin-wider (slot_at vars k) 1 (slot_at vars from) (bytes_from from slots) (omega (arith, low)) (omega (arith, low, high)) mid new within);
    seen = seen_by (gate_cases (slot_at vars k) old.seen);
    time = λ synced. Elapses-trans old mid new _ model (Elapses-more old mid _ _ (before.time synced) (λ keeps c it. Aside-further vars slots from k old.seen c it)) (since_by (gate_cases (slot_at vars k) old.seen) synced);
  }

  -- with each gate closed before, nothing is written
  pub idle_next : (mid.keeps_model → OnlyReads old mid) → ReadClosed vars from slots old → OnlyReads old new
  idle_next looked closed = reads_only_given old new (λ keeps. OnlyReads-trans old mid new model (looked (model keeps)) (idle_given (closed k low high)))

  -- and the gates up to this one read closed, once this one does
  pub closed_next : (mid.keeps_model → ReadClosed vars from k mid) → new.keeps_model → IsClosed (slot_at vars k) new.seen → ReadClosed vars from (k + 1) new
  closed_next shut keeps here j above below = by_slot (other_slot j k)
    where
      by_slot : (j ≡ k) ⊎ ((j < k) ⊎ (k < j)) → IsClosed (slot_at vars j) new.seen
      by_slot (inl is) = subst (λ (n : ℕ). IsClosed (slot_at vars n) new.seen) (sym is) here
      by_slot (inr (inl less)) = closed_before (slot_at vars k) 1 (slot_at vars j) mid.seen new.seen (within.seen keeps) (omega (arith, less)) (shut (model keeps) j above less)
      by_slot (inr (inr more)) = absurd (omega (arith, more, below))

-- How far the gates are closed: those from one slot to another, and whether one was open.
pub record Closing (vars slots from to : ℕ) (old now : DeviceView) (any : Bool) : Type 0 where
  pub capacity : now.capacity ≡ old.capacity
  pub failures : now.failures ≡ old.failures
  pub last : now.last_fault ≡ old.last_fault
  pub gates : Sets vars slots from to old now
  pub closed : now.keeps_model → ReadClosed vars from to now
  pub reads_only : any ≡ false → OnlyReads old now
  pub idle : now.keeps_model → ReadClosed vars from to old → any ≡ false

-- with each gate closed before, nothing is written so far
pub idle_so_far : (vars slots from k : ℕ) (old now : DeviceView) (any : Bool) → k ≤ slots → Closing vars slots from k old now any → ReadClosed vars from slots old → now.keeps_model → OnlyReads old now
idle_so_far vars slots from k old now any few closing shut keeps = closing.reads_only (closing.idle keeps (λ j above below. shut j above (omega (arith, below, few))))

-- gates that read closed up to one do so up to an earlier one
pub closed_up_to : (vars from to until : ℕ) (d : DeviceView) → until ≤ to → ReadClosed vars from to d → ReadClosed vars from until d
closed_up_to vars from to until d before shut k above below = shut k above (omega (arith, before, below))

-- and they do so after a call that writes nothing
pub closed_still : (vars from to : ℕ) (d new : DeviceView) → d.keeps_model → ReadsAs new d.seen → (d.keeps_model → ReadClosed vars from to d) → new.keeps_model → ReadClosed vars from to new
closed_still vars from to d new model seen shut keeps k above below = subst (λ (c : List ℕ). IsClosed (slot_at vars k) c) (sym (seen keeps)) (shut model k above below)

-- one was open before, or this one was
pub no_gate_open : (any closed now : Bool) → ((any ≡ true) × (now ≡ true)) ⊎ ((any ≡ false) × (now ≡ closed)) → now ≡ false → (any ≡ false) × (closed ≡ false)
no_gate_open any closed now (inl both) is = absurd (false≢true (sym is ∙ both.1))
no_gate_open any closed now (inr both) is = (both.0, sym both.1 ∙ is)

pub none_open_yet : (any closed now : Bool) → ((any ≡ true) × (now ≡ true)) ⊎ ((any ≡ false) × (now ≡ closed)) → any ≡ false → closed ≡ false → now ≡ false
none_open_yet any closed now (inl both) none this = absurd (false≢true (sym none ∙ both.0))
none_open_yet any closed now (inr both) none this = both.1 ∙ this

-- once all of them are closed, each log that ends before them stays
pub sets_closes : (vars slots used to generation : ℕ) (old now : DeviceView) → IsDevice old → IsDevice now → Sets vars slots used to old now → Closes vars slots generation used old now
sets_closes vars slots used to generation old now device device_now sets = record {
  seen = λ k. keeps vars slots generation used to old.seen now.seen (sets.seen k);
  elsewhere = sets.within;
  any_moment = each;
  time = time;
  crash = λ synced. LeavesOnly-moment old now _ device_now sets.within.time.later (each synced);
}
  where
    made : old.keeps_model → (c : List ℕ) → Aside vars slots used to old.seen c → MadeBy (Keeps vars slots generation used) old c
    made k c aside = (old.seen, device.seen_may_stay k, keeps vars slots generation used to old.seen c aside)

    time : IsSynced old → Elapses old now (MadeBy (Keeps vars slots generation used) old)
    time synced = Elapses-more old now _ _ (sets.time synced) (λ k. made (sets.model k))

    each : IsSynced old → AtEachMoment old now (MadeBy (Keeps vars slots generation used) old)
    each synced = AtEachMoment-elapsed old now _ _ device sets.model (time synced) (LeavesOnly-synced old _ synced (λ k. made k old.seen (Aside-refl vars slots used to old.seen))) (λ k c it. it)

-- and so it does over a call that writes nothing
pub Closes-then_look : (vars slots generation used : ℕ) (old mid new : DeviceView) → IsDevice mid → (new.keeps_model → mid.keeps_model) → Closes vars slots generation used old mid → OnlyReads mid new → Closes vars slots generation used old new
Closes-then_look vars slots generation used old mid new device model closes reads_only = record {
  seen = λ k. subst (λ (l : List ℕ). Keeps vars slots generation used old.seen l) (sym (reads_only.seen k)) (closes.seen (model k));
  elsewhere = WritesWithin-trans (slot_at vars used) (bytes_from used slots) old mid new model closes.elsewhere (by_look (slot_at vars used) (bytes_from used slots) mid new device model reads_only);
  any_moment = λ synced. AtEachMoment-trans old mid new _ _ model closes.elsewhere.time.later (closes.any_moment synced) reads_only.time (λ k. (closes.crash synced).each (model k));
  time = λ synced. Elapses-trans old mid new _ model (closes.time synced) (Elapses-more mid new _ _ reads_only.time (λ k. (closes.crash synced).each (model k)));
  crash = λ synced. LeavesOnly-after mid new _ model reads_only.crash (closes.crash synced);
}
