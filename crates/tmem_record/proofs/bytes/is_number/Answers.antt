use Rattle.std.proofs.Common.{◌<◌, ◌^◌, arith}
use Rattle.tmem_record.proofs.Standing.{is_number_there}
use Rattle.tmem_record.proofs.bytes.is_number.Goals as goal

pub returns : goal.returns
returns c =
    let read : c.number_at.result < 256 ^ 8 = omega arith in
    let asked : c.args.number < 256 ^ 8 = omega (arith, c.ranges.number) in
    is_number_there 8 c.args.at c.number_at.result c.args.number c.args.bytes.now read asked c.number_at.ensures
