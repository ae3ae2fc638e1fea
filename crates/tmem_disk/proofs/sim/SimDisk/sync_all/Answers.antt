use Rattle.std.proofs.Common.{ℕ, Bool, false, List, length, replicate, refl, ap, ◌∙◌}
use Rattle.std.proofs.lemmas.List.{length-replicate}
use Rattle.tmem_disk.proofs.Hull.{left_once}
use Rattle.tmem_disk.proofs.Unsynced.{same_bytes}
use Rattle.tmem_disk.proofs.Past.{elapses_to}
use Rattle.tmem_disk.proofs.sim.SimDisk.sync_all.Goals as goal

pub invariant_of-self : goal.invariant_of-self
invariant_of-self c =
    let d = c.args.self.now in
    let none = c.sync.ensures.unsynced ∙ ap (λ (l : List ℕ). replicate (length l) false) c.deref.ensures.value in
    record {
      agrees = rw (c.sync.ensures.synced, c.deref.ensures.value) (record { size = refl; stays = λ i is_synced. refl });
      long = ap (λ (l : List Bool). length l) none ∙ length-replicate (length d.present.items) false;
      fits = d.fits;
      counted = d.counted;
    }

pub returns-clause-bytes : goal.returns-clause-bytes
returns-clause-bytes c =
    same_bytes _ _ _ _ _ (c.sync.ensures.synced ∙ c.deref.ensures.value) (c.sync.ensures.unsynced ∙ ap (λ (l : List ℕ). replicate (length l) false) c.deref.ensures.value)

pub returns-clause-durable : goal.returns-clause-durable
returns-clause-durable c = λ k l left.
    let none = c.sync.ensures.unsynced ∙ ap (λ (l : List ℕ). replicate (length l) false) c.deref.ensures.value in
    left_once c.args.self.now.present.items _ l _ (c.sync.ensures.synced ∙ c.deref.ensures.value) none left

pub returns-clause-time : goal.returns-clause-time
returns-clause-time c = elapses_to _ _ _ _ _ _ _ _ _ _ _ _ c.with.ensures
