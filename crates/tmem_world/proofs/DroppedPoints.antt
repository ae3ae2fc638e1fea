-- The point of a run once its core was dropped.
use Rattle.std.proofs.Common.{◌≡◌, ℕ, zero, suc, List, [], ◌∷◌, length, refl, sym, subst, arith}
use Rattle.std.specs.Prelude.{All, replicate, None}
use Rattle.std.specs.List.{AllZip}
use Rattle.tmem_disk.specs.Disk.{LeavesOnly}
use Rattle.tmem_core.specs.Program.{Program}
use Rattle.tmem_journal.specs.Mended.{RecoveredBy}
use Rattle.tmem_record.specs.declared.layout.Layout.{Layout}
use Rattle.tmem_world.specs.declared.attempt.WorldAttempt.{WorldAttempt}
use Rattle.tmem_world.specs.declared.held.Held.{Held}
use Rattle.tmem_world.specs.declared.held.Held.TheVariants.{With, Without}
use Rattle.tmem_world.specs.Parts.{IsWith}
use Rattle.tmem_world.specs.declared.world.World.{World}
use Rattle.tmem_world.specs.WorldModel.{WorldModel, NoTransaction, no_transactions, cut, dropped}
use Rattle.tmem_world.specs.Represents.{AttemptIs, HeldIs, Represents, RepresentsCut, held_of, world_view}
use Rattle.tmem_world.proofs.Mending.{mended_represents}

-- empty attempts hold no plan
empty_attempts : (program : Program) (xs : List WorldAttempt) (n : ℕ) → length xs ≡ n → All (λ (s : WorldAttempt). s.plan ≡ None) xs → AllZip (AttemptIs program) xs (replicate n NoTransaction)
empty_attempts program [] zero same each = tt
empty_attempts program [] (suc n) same each = absurd (omega arith)
empty_attempts program (x ∷ xs) zero same each = absurd (omega arith)
empty_attempts program (x ∷ xs) (suc n) same each =
    (each 0 x (omega arith), empty_attempts program xs n (omega arith) (λ k d below. each (suc k) d (omega arith)))

pub no_attempts_held : (program : Program) (xs : List WorldAttempt) → length xs ≡ 16 → All (λ (s : WorldAttempt). s.plan ≡ None) xs → AllZip (AttemptIs program) xs no_transactions
unfolding no_transactions
no_attempts_held program xs same each = empty_attempts program xs 16 same each

module _ {D T S : Type 0} {d t z : _} (program : Program) (w w' : World D T S d t z) (m : WorldModel) (r : Represents program w m) (layout : w'.layout ≡ w.layout) (emptied : All (λ (s : WorldAttempt). s.plan ≡ None) w'.attempts.items) (sized : length w'.attempts.items ≡ 16)
    (crash : LeavesOnly (world_view w') (RecoveredBy w.layout.vars w.layout.slots (world_view w))) (model : (world_view w').keeps_model → (world_view w).keeps_model) where
  -- a world without a core, whose device leaves no more than an opening may, is at the point without one
  pub gone : (IsWith (held_of w') → ⊥) → (n : ℕ) → (world_view w').failures ≡ n → Represents program w' (record (dropped m) { failures = n })
  gone none n failures = record {
    numbers = record { opened = r.numbers.opened; durable = r.numbers.durable; doubtful = r.numbers.doubtful; each = r.numbers.each; sound = r.numbers.sound };
    attempts = no_attempts_held program w'.attempts.items sized emptied;
    held = without (held_of w') none;
    failures = failures;
    device = subst (λ (l : Layout). LeavesOnly (world_view w') (RepresentsCut program l.vars l.slots m)) (sym layout) (record { each = λ k c left. mended_represents w.layout.vars w.layout.slots (cut program m m.durable) (cut program m m.doubtful) (world_view w) r.device (model k) c (crash.each k c left) });
  }
    where
      without : (h : Held D T d t) → (IsWith h → ⊥) → HeldIs program h (record (dropped m) { failures = n })
      without (With o) none = absurd (none tt)
      without (Without left) none = refl
