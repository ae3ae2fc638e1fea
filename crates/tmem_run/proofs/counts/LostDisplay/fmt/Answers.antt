use Rattle.std.proofs.Common.{Bool, sym, subst}
use Rattle.std.specs.Prelude.{if◌then◌else◌}
use Rattle.std.specs.Fmt.{HasWritten}
use Rattle.tmem_run.specs.Counted.{doubt_text, gone_text}
use Rattle.tmem_run.proofs.counts.LostDisplay.fmt.Goals as goal

pub returns-then-in_doubt-clause-writes : goal.returns-then-in_doubt-clause-writes
returns-then-in_doubt-clause-writes g c = λ plain ok.
    let it = c.args.self.now in
    subst (λ (b : Bool). HasWritten g.W.Write.write_str_gives c.args.f.now (if b then doubt_text it else gone_text it) c.write.new.self) (sym c.if-in_doubt.true) (c.write.ensures.writes plain ok)

pub returns-else-in_doubt-clause-writes : goal.returns-else-in_doubt-clause-writes
returns-else-in_doubt-clause-writes g c = λ plain ok.
    let it = c.args.self.now in
    subst (λ (b : Bool). HasWritten g.W.Write.write_str_gives c.args.f.now (if b then doubt_text it else gone_text it) c.write-else-in_doubt.new.self) (sym c.if-in_doubt.false) (c.write-else-in_doubt.ensures.writes plain ok)
