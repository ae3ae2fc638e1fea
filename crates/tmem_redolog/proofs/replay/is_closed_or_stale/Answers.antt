use Rattle.std.proofs.Common.{arith}
use Rattle.tmem_redolog.proofs.Replaying.{is_less, less_it}
use Rattle.tmem_redolog.proofs.replay.is_closed_or_stale.Goals as goal

pub returns-else-not-is_open : goal.returns-else-not-is_open
returns-else-not-is_open c = (
  is_less c.args.slot.now c.generation_in.result c.args.generation c.generation_in.ensures.fits (omega (arith, c.ranges.generation)) (c.is_open.ensures.0 c.if-not-is_open.false) c.generation_in.ensures.stands,
  less_it c.args.slot.now c.generation_in.result c.args.generation c.generation_in.ensures.fits (omega (arith, c.ranges.generation)) (c.is_open.ensures.0 c.if-not-is_open.false) c.generation_in.ensures.stands,
)
