use Rattle.std.proofs.Common.{arith}
use Rattle.tmem_parts.proofs.Bytes.{zeros_stand, other_than_zero}
use Rattle.tmem_parts.proofs.block.other_than_zero.Goals as goal

pub returns-then-bytes-at-ne0-clause-some : goal.returns-then-bytes-at-ne0-clause-some
returns-then-bytes-at-ne0-clause-some c = other_than_zero c.args.bytes.now c.loop-at.at (omega arith) (omega arith) c.if-bytes-at-ne0.true

pub returns-clause-none : goal.returns-clause-none
returns-clause-none c = zeros_stand c.args.bytes.now c.requires (λ k from below. c.loop-at.invariant k from (omega (arith, below)))
