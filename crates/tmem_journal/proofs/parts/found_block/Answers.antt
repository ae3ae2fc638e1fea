use Rattle.std.proofs.Common.{◌≡◌, ◌∙◌, take, drop, refl, ap, arith, rules}
use Rattle.std.proofs.lemmas.Result.{err_from_is_err_and}
use Rattle.tmem_fault.specs.declared.fault.Fault.{Fault}
use Rattle.tmem_gate.specs.Calls.{failures_after}
use Rattle.tmem_journal.proofs.FormattedContent.{if_ok}
use Rattle.tmem_record.proofs.Laws.{gate_open, part_read}
use Rattle.tmem_journal.specs.BlockSpelling.{block_body}
use Rattle.tmem_journal.proofs.Refused.{whole, why_read, block_failures}
use Rattle.tmem_journal.proofs.parts.found_block.Goals as goal

pub returns-in_err-read : goal.returns-in_err-read
returns-in_err-read g c =
    let it = c.in_err-read.ensures in
    let returned = err_from_is_err_and c.from_residual.result c.from_residual.ensures.1 in
    rw (returned.1, returned.2, it.err) (record {
      uses = record { capacity = it.uses.capacity; model = it.uses.model; failures = it.uses.failures ∙ ap (λ (f : Fault). failures_after f (g.D.Disk.view c.args.disk.now).failures) it.err };
      reads_only = it.reads_only;
      found = λ _. tt;
      refused = tt;
    })

pub returns-then-not-reads_open : goal.returns-then-not-reads_open
returns-then-not-reads_open g c =
    let it = c.in_ok-read.ensures in
    record {
      uses = record { capacity = it.uses.capacity; model = it.uses.model; failures = it.uses.failures };
      reads_only = it.reads_only;
      found = λ _. tt;
      refused = search rules;
    }

pub returns : goal.returns
returns g c =
    let vars = c.args.layout.vars in
    let slots = c.args.layout.slots in
    let seen = (g.D.Disk.view c.args.disk.now).seen in
    let into = c.read.new.into in
    let it = c.in_ok-read.ensures in
    record {
      uses = record { capacity = it.uses.capacity; model = it.uses.model; failures = block_failures vars slots _ _ _ c.read_block.result c.read_block.ensures.refused it.uses.failures };
      reads_only = it.reads_only;
      found = λ k.
          let read = it.bytes k in
          if_ok (λ version. take 511 (drop 1 into) ≡ block_body version vars slots) _ (λ version same. whole seen _ (gate_open seen into 0 512 read 0 0 refl (omega arith) (c.reads_open.ensures.0 c.if-not-reads_open.false)) (part_read seen into 0 512 read 1 511 (omega arith)) version vars slots same)
          c.read_block.result c.read_block.ensures.found;
      refused = why_read _ vars slots seen _ (λ k. gate_open seen into 0 512 (it.bytes k) 0 0 refl (omega arith) (c.reads_open.ensures.0 c.if-not-reads_open.false))
          (λ k. part_read seen into 0 512 (it.bytes k) 1 511 (omega arith)) c.read_block.result c.read_block.ensures.refused;
    }
