use Rattle.std.proofs.Common.{sym, ◌∙◌}
use Rattle.std.proofs.lemmas.Bool.{false≢true}
use Rattle.tmem_image.proofs.Loading.{front_closed, front_open}
use Rattle.tmem_image.proofs.choosing.head_at.Goals as goal

pub returns-then-not-reads_open-clause-found : goal.returns-then-not-reads_open-clause-found
returns-then-not-reads_open-clause-found g c = λ k.
    front_closed c.args.at (g.D.Disk.view c.args.disk.now).seen c.read.new.into (c.in_ok-read.ensures.bytes k) (λ opened. false≢true (sym c.if-not-reads_open.true ∙ c.reads_open.ensures.1 opened))

pub returns-clause-found : goal.returns-clause-found
returns-clause-found g c = λ k.
    front_open c.args.at (g.D.Disk.view c.args.disk.now).seen c.read.new.into (c.in_ok-read.ensures.bytes k) c.number_at.result (c.reads_open.ensures.0 c.if-not-reads_open.false) c.number_at.ensures
