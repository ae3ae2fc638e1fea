use Rattle.std.proofs.Common.{◌∙◌, Err, ℕ, ap, inr, sym, subst, arith}
use Rattle.std.proofs.lemmas.Result.{err_from_is_err_and}
use Rattle.tmem_disk.specs.Start.{IsNewDevice}
use Rattle.tmem_file.specs.FileView.{file_view}
use Rattle.tmem_file.specs.declared.disk.FileDisk.{FileDisk}
use Rattle.tmem_journal.specs.Contents.{first_position}
use Rattle.tmem_run.specs.Builtin.{builtin_program}
use Rattle.tmem_run.specs.Stored.{IsMade}
use Rattle.tmem_run.proofs.Laws.{second_of}
use Rattle.tmem_run.proofs.device.made_file.Goals as goal

pub returns-in_ok-give_name-in-Ok : goal.returns-in_ok-give_name-in-Ok
returns-in_ok-give_name-in-Ok g c =
    let blank = c.in_ok-new.new.disk in
    let disk = c.in_ok-give_name-in-Ok.field-0 in
    let named = c.in_ok-give_name-in-Ok.ensures.named in
    record {
      made = subst (λ (zeros : FileDisk). IsMade c.args.layout.vars c.args.layout.slots zeros disk) (sym c.of-zeros.ensures) (record {
        zeros = subst (λ (n : ℕ). IsNewDevice n (file_view blank)) c.end.ensures c.in_ok-new.ensures.made;
        formatted = c.format.new.disk;
        written = c.in-Ok.ensures.elsewhere.time;
        capacity = c.in-Ok.ensures.uses.capacity;
        model = c.in-Ok.ensures.uses.model;
        stands = c.in-Ok.ensures.stands;
        named = named;
        store = c.formatted_is_store.ensures (builtin_program c.args.layout.vars) c.args.layout.vars c.args.layout.slots first_position disk
            (record { layout = c.args.layout.fits; room = omega (arith, named.capacity, c.in-Ok.ensures.uses.capacity, c.in_ok-new.ensures.made.capacity, c.end.ensures) })
            (record { each = λ k x left. c.in-Ok.ensures.stands.each (named.model k) x (named.crash.each k x left) });
      });
      failures = named.failures ∙ c.in-Ok.ensures.uses.failures ∙ c.in_ok-new.ensures.made.failures;
      refused = tt;
    }

pub returns-in_err-new : goal.returns-in_err-new
returns-in_err-new g c =
    let p = err_from_is_err_and c.from_residual.result c.from_residual.ensures.1 in
    rw (p.1, p.2) record { made = tt; failures = tt; refused = c.in_err-new.ensures.refused }

pub returns-in_err-give_name-in-Ok : goal.returns-in_err-give_name-in-Ok
returns-in_err-give_name-in-Ok g c =
    let p = err_from_is_err_and c.from_residual-in_err-give_name-in-Ok.result c.from_residual-in_err-give_name-in-Ok.ensures.1 in
    rw (p.1, p.2) record { made = tt; failures = tt; refused = inr c.in_err-give_name-in-Ok.ensures.refused }

pub returns-in-Err : goal.returns-in-Err
returns-in-Err g c =
    let so = c.in-Err.ensures in
    let blank = c.in_ok-new.ensures.made in
    record {
      made = tt;
      failures = tt;
      refused = inr (second_of so.errors (λ geometry. so.geometry (ap Err geometry) (record { layout = c.args.layout.fits; room = omega (arith, blank.capacity, c.end.ensures) })));
    }
