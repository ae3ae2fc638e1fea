use Rattle.std.proofs.Common.{◌≡◌, inl, inr, ⊎_elim, ◌+◌, ◌≤◌, ℕ, List, length, refl, ◌∙◌, ap, arith}
use Rattle.std.specs.Prelude.{◌⊎◌}
use Rattle.std.proofs.lemmas.Result.{err_from_is_err_and}
use Rattle.tmem_disk.specs.Disk.{AtEachMoment}
use Rattle.tmem_gate.specs.Gate.{IsClosed}
use Rattle.tmem_gate.proofs.Laws.{WritesWithin-wider, WritesWithin-trans}
use Rattle.tmem_effect.specs.State.{first_state}
use Rattle.tmem_record.specs.Layout.{end_at}
use Rattle.tmem_state.specs.declared.version.Version.TheVariants.{Two}
use Rattle.tmem_journal.specs.Contents.{first_position, ContentRepresents}
use Rattle.tmem_journal.proofs.Building.{both_moments, as_written, represents_formatted}
use Rattle.tmem_journal.proofs.Chained.{uses_after}
use Rattle.tmem_journal.proofs.FormattedContent.{all_written, block_closed, zeros_closed, length-header_bytes, on_ok}
use Rattle.tmem_journal.proofs.Lengths.{length-block_body}
use Rattle.tmem_journal.proofs.Recovering.{leaves_seen}
use Rattle.tmem_journal.proofs.formatting.build.Goals as goal

pub put_cell-requires-clause-closed : goal.put_cell-requires-clause-closed
put_cell-requires-clause-closed g c =
    leaves_seen c.requires.synced (λ k. zeros_closed (end_at c.args.layout.vars c.args.layout.slots) c.image.result _ _ (omega (arith, c.image.ensures)) (c.requires.zeros k))

pub put_cell-requires-2-clause-closed : goal.put_cell-requires-2-clause-closed
put_cell-requires-2-clause-closed g c = leaves_seen c.in_ok-put_cell.ensures.synced (λ k.
    let before = c.put_cell.ensures.uses.model k in
    block_closed (end_at c.args.layout.vars c.args.layout.slots) c.image.result (1 + length c.first_header.result) _ _ _ (omega arith) (omega (arith, c.image.ensures)) (c.requires.zeros before) (c.put_cell.ensures.elsewhere.seen k))

pub returns-in_err-put_cell : goal.returns-in_err-put_cell
returns-in_err-put_cell g c =
    let end = end_at c.args.layout.vars c.args.layout.slots in
    let put = 1 + length c.first_header.result in
    let image : c.image.result + put ≤ 0 + end = omega (arith, c.image.ensures, ap length c.first_header.ensures, length-header_bytes) in
    let it = c.in_err-put_cell.ensures in
    let returned = err_from_is_err_and c.from_residual.result c.from_residual.ensures.1 in
    rw (returned.1, returned.2) (record {
      uses = record { capacity = it.uses.capacity; model = it.uses.model; failures = it.uses.failures };
      written = tt;
      durable = tt;
      elsewhere = WritesWithin-wider c.image.result put 0 end (omega arith) image _ _ it.elsewhere;
      err = it.err;
      any_moment = record {
        each = λ k d left.
            let before = it.uses.model k in
            let was = it.elsewhere.any_moment.each k d left in
            inl (block_closed end c.image.result put _ was.0 d (omega arith) (omega (arith, c.image.ensures)) (c.requires.synced before was.0 was.1 ∙ c.requires.zeros before) was.2);
      };
    })

pub returns : goal.returns
returns g c =
    let vars = c.args.layout.vars in
    let slots = c.args.layout.slots in
    let end = end_at vars slots in
    let some : 1 ≤ slots = omega (arith, c.args.layout.fits.some_slots) in
    let at : c.image.result ≡ 512 = omega (arith, c.image.ensures) in
    let put = 1 + length c.first_header.result in
    let image : c.image.result + put ≤ 0 + end = omega (arith, c.image.ensures, ap length c.first_header.ensures, length-header_bytes) in
    let block_put = 1 + length c.spell_block-block.result in
    let block : 0 + block_put ≤ 0 + end = omega (arith, ap length c.spell_block-block.ensures, length-block_body Two vars slots) in
    let old = g.D.Disk.view c.args.disk.now in
    let mid = g.D.Disk.view c.put_cell.new.disk in
    let new = g.D.Disk.view c.put_cell-2.new.disk in
    let it = c.in_ok-put_cell.ensures in
    let then = c.put_cell-2.ensures in
    let Fine : List ℕ → Type 0 = λ d. IsClosed 0 d ⊎ ContentRepresents vars slots first_position (first_state vars) d in
    let first : AtEachMoment old mid Fine = record {
      each = λ k d left.
          let before = it.uses.model k in
          let was = it.elsewhere.any_moment.each k d left in
          inl (block_closed end c.image.result put _ was.0 d (omega arith) (omega (arith, c.image.ensures)) (c.requires.synced before was.0 was.1 ∙ c.requires.zeros before) was.2);
    } in
    let second : AtEachMoment mid new Fine = record {
      each = λ k d left.
          let between = then.uses.model k in
          let before = it.uses.model between in
          ⊎_elim
          (λ closed. inl closed.gate)
          (λ open_now. inr (represents_formatted vars slots c.args.layout.fits _ d
          (all_written vars slots end c.image.result c.first_header.result c.spell_block-block.result _ _ _ d some refl at c.first_header.ensures c.spell_block-block.ensures (c.requires.zeros before) (it.written between) (as_written c.spell_block-block.result mid.seen d open_now.as_seen open_now.cell))))
          (then.any_moment.each k d left).2;
    } in
    record {
      uses = uses_after c.put_cell-2.result it.uses then.uses;
      written = on_ok (λ written k.
          let between = then.uses.model k in
          let before = it.uses.model between in
          all_written vars slots end c.image.result c.first_header.result c.spell_block-block.result _ _ _ _ some refl at c.first_header.ensures c.spell_block-block.ensures (c.requires.zeros before) (it.written between) (written k))
          c.put_cell-2.result then.written;
      durable = then.synced;
      elsewhere = WritesWithin-trans 0 end _ _ _ then.uses.model (WritesWithin-wider c.image.result put 0 end (omega arith) image _ _ it.elsewhere) (WritesWithin-wider 0 block_put 0 end (omega arith) block _ _ then.elsewhere);
      err = then.err;
      any_moment = both_moments old mid new Fine _ then.uses.model (λ k. it.elsewhere.time.later k) then.elsewhere.time first second;
    }
