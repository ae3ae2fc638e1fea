use Rattle.std.proofs.Common.{arith}
use Rattle.tmem_redolog.proofs.Replaying.{is_of, of_it}
use Rattle.tmem_redolog.proofs.replay.carries.Goals as goal

pub returns-then-is_open : goal.returns-then-is_open
returns-then-is_open c = (
  is_of c.args.slot.now c.generation_in.result c.args.generation c.generation_in.ensures.fits (omega (arith, c.ranges.generation)) (c.is_open.ensures.0 c.if-is_open.true) c.generation_in.ensures.stands,
  of_it c.args.slot.now c.generation_in.result c.args.generation c.generation_in.ensures.fits (omega (arith, c.ranges.generation)) (c.is_open.ensures.0 c.if-is_open.true) c.generation_in.ensures.stands,
)
