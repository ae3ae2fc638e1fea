use Rattle.std.proofs.Common.{false, length, get_or, ap, ◌∙◌, arith}
use Rattle.tmem_disk.proofs.Hull.{synced_over, cleared, none_unsynced}
use Rattle.tmem_disk.proofs.platter.Platter.sync_range.Goals as goal

pub returns-clause-synced : goal.returns-clause-synced
returns-clause-synced c =
    let p = c.args.self.now in
    c.overwrite.ensures ∙ synced_over c.args.low c.args.high p.unsynced.items c.requires.ordered (omega arith) c.requires.before c.requires.behind p.synced.items c.args.present.now c.requires.long c.requires.agrees

pub returns-clause-unsynced : goal.returns-clause-unsynced
returns-clause-unsynced c =
    let p = c.args.self.now in
    c.set_unsynced.ensures ∙ cleared c.args.low c.args.high p.unsynced.items c.requires.ordered (omega arith) c.requires.before c.requires.behind (length c.args.present.now) c.requires.long

pub invariant_of-self : goal.invariant_of-self
invariant_of-self c =
    let p = c.args.self.now in
    let none = c.set_unsynced.ensures ∙ cleared c.args.low c.args.high p.unsynced.items c.requires.ordered (omega arith) c.requires.before c.requires.behind (length c.args.present.now) c.requires.long in
    record {
      ordered = omega arith;
      within = omega arith;
      before = λ i below. absurd (omega (arith, below));
      behind = λ i above. ap (λ l. get_or l i false) none ∙ none_unsynced (length c.args.present.now) i;
    }
