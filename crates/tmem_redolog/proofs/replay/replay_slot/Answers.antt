use Rattle.std.proofs.Common.{◌≤◌, ◌<◌, ◌^◌, length, arith}
use Rattle.tmem_record.specs.Spelling.{batch_bytes}
use Rattle.tmem_redolog.proofs.Replaying.{spelled_in, same_batch, from_all, to_all}
use Rattle.tmem_redolog.proofs.replay.replay_slot.Goals as goal
use Rattle.tmem_redolog.proofs.replay.replay_slot.Goals.{then-head-generation-via-then-head-generation, then-head-generation-via-else-head-generation+then-head-count}

pub returns-in_default-clause-refused : goal.returns-in_default-clause-refused
returns-in_default-clause-refused c = λ es may.
    let fits : c.args.generation < 2 ^ 64 = omega (arith, c.ranges.generation) in
    let n = length (batch_bytes c.args.version c.args.generation c.args.state.now.count es) in
    c.in_default.ensures.none c.args.generation c.args.state.now.count n es (to_all c.args.version c.args.vars c.args.generation c.args.state.now.count n es c.args.slot.now (spelled_in c.args.version c.args.vars c.args.generation c.args.state.now c.args.slot.now es fits may)) may.within

pub returns-then-head-generation-clause-refused : goal.returns-then-head-generation-clause-refused
returns-then-head-generation-clause-refused c = λ es may.
    let few : c.args.vars ≤ 2 ^ 16 = omega (arith, c.ranges.vars) in
    let fits : c.args.generation < 2 ^ 64 = omega (arith, c.ranges.generation) in
    let had = c.in-Some.ensures.found in
    let read = from_all c.args.version c.args.vars c.in-Some.head.generation c.in-Some.head.first c.in-Some.head.length had.es c.args.slot.now had.spells in
    let same = same_batch c.args.version c.args.vars c.args.generation few fits c.args.state.now c.args.slot.now c.in-Some.head.generation c.in-Some.head.first c.in-Some.head.length had.es read es may in
    elim c.then-head-generation.branch [
      | then-head-generation-via-then-head-generation w ↦ absurd (omega (arith, w.if-head-generation, same.0))
      | then-head-generation-via-else-head-generation+then-head-count w ↦ absurd (omega (arith, w.if-head-count, c.count-count.ensures, same.1))
    ]
