use Rattle.std.proofs.Common.{◌≡◌, ◌≤◌, ◌*◌, ◌+◌, ◌/◌, ◌%◌, ◌++◌, ◌∙◌, ℕ, List, length, take, drop, replicate, refl, ap, subst, arith}
use Rattle.std.specs.Prelude.{Ok}
use Rattle.std.proofs.lemmas.List.{take-replicate, length-replicate}
use Rattle.std.proofs.lemmas.Result.{err_from_is_err_and}
use Rattle.tmem_disk.specs.Disk.{overwritten}
use Rattle.tmem_gate.specs.Calls.{Uses, failures_after}
use Rattle.tmem_journal.proofs.Overwriting.{zeros_more}
use Rattle.tmem_journal.proofs.Chained.{uses_after}
use Rattle.tmem_journal.proofs.FormattedContent.{on_ok}
use Rattle.tmem_gate.proofs.Laws.{WritesWithin-refl, WritesWithin-wider, WritesWithin-trans, by_look}
use Rattle.tmem_journal.proofs.formatting.erase.Goals as goal

pub loop-piece-init : goal.loop-piece-init
loop-piece-init g c = record {
  capacity = refl;
  model = λ k. k;
  failures = refl;
  zeros = λ k. refl;
  elsewhere = WritesWithin-refl 0 c.args.«end» (g.D.Disk.view c.args.disk.now) (g.met.D.Disk.is_device c.args.disk.now);
}

pub loop-piece-preserved : goal.loop-piece-preserved
loop-piece-preserved g c =
    let so_far = c.loop-piece.invariant in
    let it = c.in_ok-write.ensures in
    record {
      capacity = it.uses.capacity ∙ so_far.capacity;
      model = λ k. so_far.model (it.uses.model k);
      failures = it.uses.failures ∙ so_far.failures;
      zeros = λ k.
          let next : 16384 * c.loop-piece.piece + 16384 ≡ 16384 * (c.loop-piece.piece + 1) = omega arith in
          let before = (g.D.Disk.view c.args.disk.now).seen in
          let after = (g.D.Disk.view c.write.new.disk).seen in
          subst (λ (n : ℕ). after ≡ replicate n 0 ++ drop n before) next (zeros_more (16384 * c.loop-piece.piece) 16384 before _ after _ (so_far.zeros (it.uses.model k)) (it.written k) refl);
      elsewhere = WritesWithin-trans 0 c.args.«end» _ _ _ it.uses.model so_far.elsewhere (WritesWithin-wider (16384 * c.loop-piece.piece) 16384 0 c.args.«end» (omega arith) (omega arith) _ _ it.elsewhere);
    }

pub returns-in_err-write : goal.returns-in_err-write
returns-in_err-write g c =
    let so_far = c.loop-piece.invariant in
    let it = c.in_err-write.ensures in
    let returned = err_from_is_err_and c.from_residual.result c.from_residual.ensures.1 in
    rw (returned.1, returned.2) (record {
      uses = record {
        capacity = it.uses.capacity ∙ so_far.capacity;
        model = λ k. so_far.model (it.uses.model k);
        failures = it.uses.failures ∙ ap (failures_after c.in_err-write.field-0.0) so_far.failures;
      };
      zeros = tt;
      elsewhere = WritesWithin-trans 0 c.args.«end» _ _ _ it.uses.model so_far.elsewhere (WritesWithin-wider (16384 * c.loop-piece.piece) 16384 0 c.args.«end» (omega arith) (omega arith) _ _ it.elsewhere);
      synced = tt;
      err = it.err;
    })

-- the last piece ends where the zeros end
module _ (n : ℕ) where
  whole : 16384 * (n / 16384) + n % 16384 ≡ n
  whole = omega arith

  last_long : (block : List ℕ) → block ≡ replicate (n % 16384) 0 → 16384 * (n / 16384) + length block ≤ 0 + n
  last_long block blank = omega (arith, whole, ap length blank, length-replicate {A = ℕ} (n % 16384) 0)

  last_blank : take (n % 16384) (replicate {A = ℕ} 16384 0) ≡ replicate (n % 16384) 0
  last_blank = take-replicate (n % 16384) 16384 0 (omega arith)

  all_zeros : (p : ℕ) (old before after block : List ℕ) → p ≡ n / 16384 → before ≡ replicate (16384 * p) 0 ++ drop (16384 * p) old → after ≡ overwritten before (16384 * (n / 16384)) block → block ≡ replicate (n % 16384) 0 → after ≡ replicate n 0 ++ drop n old
  all_zeros p old before after block pieces zeros is blank =
      let here = subst (λ (k : ℕ). before ≡ replicate (16384 * k) 0 ++ drop (16384 * k) old) pieces zeros in
      subst (λ (k : ℕ). after ≡ replicate k 0 ++ drop k old) whole (zeros_more (16384 * (n / 16384)) (n % 16384) old before after block here is blank)

pub returns-in_err-write-2 : goal.returns-in_err-write-2
returns-in_err-write-2 g c =
    let so_far = c.loop-piece.invariant in
    let it = c.in_err-write-2.ensures in
    let returned = err_from_is_err_and c.from_residual-in_err-write-2.result c.from_residual-in_err-write-2.ensures.1 in
    rw (returned.1, returned.2) (record {
      uses = record {
        capacity = it.uses.capacity ∙ so_far.capacity;
        model = λ k. so_far.model (it.uses.model k);
        failures = it.uses.failures ∙ ap (failures_after c.in_err-write-2.field-0.0) so_far.failures;
      };
      zeros = tt;
      elsewhere = WritesWithin-trans 0 c.args.«end» _ _ _ it.uses.model so_far.elsewhere (WritesWithin-wider (16384 * (c.args.«end» / 16384)) _ 0 c.args.«end» (omega arith) (last_long c.args.«end» _ (last_blank c.args.«end»)) _ _ it.elsewhere);
      synced = tt;
      err = it.err;
    })

pub returns : goal.returns
returns g c =
    let so_far = c.loop-piece.invariant in
    let it = c.in_ok-write-2.ensures in
    let then = c.sync.ensures in
    let pieces : c.loop-piece.piece ≡ c.args.«end» / 16384 = omega arith in
    let written = WritesWithin-trans 0 c.args.«end» _ _ _ it.uses.model so_far.elsewhere (WritesWithin-wider (16384 * (c.args.«end» / 16384)) _ 0 c.args.«end» (omega arith) (last_long c.args.«end» _ (last_blank c.args.«end»)) _ _ it.elsewhere) in
    let first : Uses {T = Unit {0}} (g.D.Disk.view c.args.disk.now) (g.D.Disk.view c.write-2.new.disk) (Ok tt) = record {
      capacity = it.uses.capacity ∙ so_far.capacity;
      model = λ k. so_far.model (it.uses.model k);
      failures = it.uses.failures ∙ so_far.failures;
    } in
    record {
      uses = uses_after c.sync.result first then.uses;
      zeros = on_ok (λ synced k.
          let mid = then.uses.model k in
          then.reads_only.seen k ∙ all_zeros c.args.«end» c.loop-piece.piece _ _ _ _ pieces (so_far.zeros (it.uses.model mid)) (it.written mid) (last_blank c.args.«end»))
          c.sync.result then.synced;
      elsewhere = WritesWithin-trans 0 c.args.«end» _ _ _ then.uses.model written (by_look 0 c.args.«end» _ _ (g.met.D.Disk.is_device c.write-2.new.disk) then.uses.model then.reads_only);
      synced = then.synced;
      err = then.err;
    }
