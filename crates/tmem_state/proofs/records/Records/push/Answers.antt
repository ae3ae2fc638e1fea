use Rattle.std.proofs.Common.{ap, length, arith}
use Rattle.std.proofs.lemmas.List.{length-take-le}
use Rattle.tmem_state.specs.Batch.{IsBatched}
use Rattle.tmem_state.proofs.BatchLaws.{FillsRecords-push}
use Rattle.tmem_state.proofs.records.Records.push.Goals as goal

pub invariant_of-self : goal.invariant_of-self
invariant_of-self c =
    let is : IsBatched c.args.effect.now = record { writes = c.as_slice.ensures.are_writes; names = c.as_slice-2.ensures.are_checks; retired = c.as_slice-3.ensures.are_checks; apart = c.requires.apart; not_empty = c.requires.not_empty } in
    let held = length-take-le c.self.inside.len c.self.inside.effects.items (omega (arith, c.self.invariant.made, c.self.invariant.few)) in
    rw c.copy_from.ensures (FillsRecords-push c.self.inside.effects.items c.self.inside.len c.args.effect.now c.self.invariant (omega (arith, c.requires.room, held, ap length c.self.view_is)) is)
