use Rattle.std.proofs.Common.{◌≡◌, ℕ, ◌+◌, ap, subst, arith}
use Rattle.tmem_bench.specs.Counting.{AddsDurable, once}
use Rattle.tmem_bench.proofs.Added.{both_held, nothing}
use Rattle.tmem_bench.proofs.counting.add_turns.Goals as goal
use Rattle.tmem_bench.proofs.counting.add_turns.Goals.{then-branch, else-branch}

pub loop-turn-init : goal.loop-turn-init
loop-turn-init g c = record { added = ∣ nothing g.N.Naming.name.start c.args.pass.now ∣₁; most = omega arith }

pub loop-turn-preserved : goal.loop-turn-preserved
loop-turn-preserved g c =
    let start = g.N.Naming.name.start in
    let old = c.loop-turn.pass in
    let new = c.add_once.new.pass in
    let more = c.loop-turn.invariant.most in
    let adds : (n : ℕ) → c.if-branch.committed ≡ c.loop-turn.committed + n → once c.in_ok-add_once.field-0 ≡ n → ∥ AddsDurable start c.args.pass.now c.if-branch.committed new ∥₁ =
    λ n is same. both_held start c.args.pass.now old new c.loop-turn.committed n c.if-branch.committed c.loop-turn.invariant.added (subst (λ (k : ℕ). ∥ AddsDurable start old k new ∥₁) same c.in_ok-add_once.ensures) is in
    elim c.if-branch.branch [
      | then-branch w ↦ record { added = adds 1 w.committed-is (ap once w.if-branch.true); most = omega (arith, more, w.committed-is) }
      | else-branch w ↦ record { added = adds 0 (omega (arith, w.committed-is)) (ap once w.if-branch.false); most = omega (arith, more, w.committed-is) }
    ]
