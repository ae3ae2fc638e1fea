use Rattle.std.proofs.Common.{◌≡◌, ◌+◌, ◌*◌, ◌<◌, ◌^◌, inl, inr, refl, sym, ◌∙◌, ap, subst, arith}
use Rattle.tmem_disk.specs.Disk.{LeavesOnly}
use Rattle.tmem_disk.proofs.Laws.{LeavesOnly-more}
use Rattle.tmem_gate.proofs.Laws.{WritesWithin-refl}
use Rattle.tmem_record.specs.Layout.{image_at, image_size}
use Rattle.tmem_state.specs.declared.version.Version.{Version}
use Rattle.tmem_image.specs.Image.{IsGeneration, other_copy}
use Rattle.tmem_image.specs.Pages.{pages_at}
use Rattle.tmem_image.proofs.Laws.{HoldsOthers-all}
use Rattle.tmem_redolog.specs.declared.log.Log.{Log}
use Rattle.tmem_journal.specs.Contents.{position_at, position_in, migrated, ContentRepresents}
use Rattle.tmem_journal.proofs.Chained.{device_failed}
use Rattle.tmem_journal.proofs.Logged.{other_one}
use Rattle.tmem_journal.proofs.Migrated.{no_call, any_position, not_both, not_spent}
use Rattle.tmem_journal.proofs.migrating.migrate.Goals as goal

pub returns-in-Two : goal.returns-in-Two
returns-in-Two g c =
    let layout = c.args.layout in
    let found = c.args.found in
    let view = g.D.Disk.view c.args.disk.now in
    let device = g.met.D.Disk.is_device c.args.disk.now in
    record {
      uses = record { capacity = refl; model = λ k. k; failures = refl };
      version = c.in-Two.is;
      state = refl;
      position = ap (λ (v : Version). migrated (position_at v found.copy found.log)) (sym c.in-Two.is);
      refused = tt;
      spent = tt;
      current = λ _. refl;
      elsewhere = WritesWithin-refl (image_at layout.vars 0) (2 * image_size layout.vars + 4096 * layout.slots) view device;
      beside = λ k i beside none. refl;
      any_moment = no_call view _ _ device c.requires.stands (λ content stands. any_position stands);
      stands = LeavesOnly-more view _ _ c.requires.stands (λ content stands. any_position stands);
      synced = c.requires.synced;
      sure = subst (λ (v : Version). LeavesOnly view (ContentRepresents layout.vars layout.slots (position_at v found.copy found.log) found.state)) c.in-Two.is c.requires.stands;
      closed = c.requires.closed;
      one = c.requires.one;
      number = c.requires.number;
      few = c.requires.sized.1;
    }

pub returns-then-found-eq18446744073709551615 : goal.returns-then-found-eq18446744073709551615
returns-then-found-eq18446744073709551615 g c =
    let layout = c.args.layout in
    let view = g.D.Disk.view c.args.disk.now in
    let device = g.met.D.Disk.is_device c.args.disk.now in
    record {
      uses = record { capacity = refl; model = λ k. k; failures = refl };
      version = tt;
      state = tt;
      position = tt;
      refused = inr (refl, record { version = c.in-One.is; last = omega (arith, c.if-found-eq18446744073709551615.true) });
      spent = λ _. refl;
      current = λ _. refl;
      elsewhere = WritesWithin-refl (image_at layout.vars 0) (2 * image_size layout.vars + 4096 * layout.slots) view device;
      beside = λ k i beside none. refl;
      any_moment = no_call view _ _ device c.requires.stands (λ content stands. any_position stands);
      stands = LeavesOnly-more view _ _ c.requires.stands (λ content stands. any_position stands);
      synced = tt;
      sure = tt;
      closed = tt;
      one = tt;
      number = tt;
      few = tt;
    }

pub renew-requires : goal.renew-requires
renew-requires g c =
    let layout = c.args.layout in
    let found = c.args.found in
    record {
      room = c.requires.room;
      one = c.requires.one;
      number = omega (arith, c.requires.number.fits);
      sized = c.requires.sized.0;
      synced = c.requires.synced;
      stands = c.requires.stands;
      others = record { each = λ k content left. HoldsOthers-all (pages_at layout.vars (other_copy found.copy)) layout.vars found.state.values content layout.fits.vars_fit };
    }

pub returns-in-Ok : goal.returns-in-Ok
returns-in-Ok g c =
    let layout = c.args.layout in
    let found = c.args.found in
    let new = g.D.Disk.view c.renew.new.disk in
    let it = c.in-Ok.ensures in
    let emptied : c.renew.new.log ≡ record { generation = found.log.generation + 1; used = 0 } = it.emptied in
    let below : found.log.generation + 1 < 2 ^ 64 = omega (arith, c.requires.number.fits, c.if-found-eq18446744073709551615.false) in
    record {
      uses = record { capacity = it.uses.capacity; model = it.uses.model; failures = it.uses.failures };
      version = refl;
      state = refl;
      position = ap (λ (l : Log). position_in (other_copy found.copy) l) emptied ∙ ap (λ (v : Version). migrated (position_at v found.copy found.log)) (sym c.in-One.is);
      refused = tt;
      spent = tt;
      current = λ is. absurd (not_both (sym c.in-One.is ∙ is));
      elsewhere = it.elsewhere;
      beside = it.beside;
      any_moment = it.any_moment;
      stands = it.stands;
      synced = it.durable;
      sure = subst (λ (l : Log). LeavesOnly new (ContentRepresents layout.vars layout.slots (position_in (other_copy found.copy) l) found.state)) (sym emptied) it.sure;
      closed = λ k above below. it.closed k below;
      one = other_one found.copy;
      number = subst (λ (l : Log). IsGeneration l.generation) (sym emptied) (record { some = omega arith; fits = below });
      few = omega (arith, ap (λ (l : Log). l.used) emptied);
    }

pub returns-in-Err-clause-uses : goal.returns-in-Err-clause-uses
returns-in-Err-clause-uses g c =
    let it = c.in-Err.ensures in
    record { capacity = it.uses.capacity; model = it.uses.model; failures = device_failed _ _ _ it.errors it.uses.failures }

pub returns-in-Err-clause-version : goal.returns-in-Err-clause-version
returns-in-Err-clause-version g c = tt

pub returns-in-Err-clause-state : goal.returns-in-Err-clause-state
returns-in-Err-clause-state g c = tt

pub returns-in-Err-clause-position : goal.returns-in-Err-clause-position
returns-in-Err-clause-position g c = tt

pub returns-in-Err-clause-refused : goal.returns-in-Err-clause-refused
returns-in-Err-clause-refused g c = inl refl

pub returns-in-Err-clause-spent : goal.returns-in-Err-clause-spent
returns-in-Err-clause-spent g c = λ is. absurd (not_spent is)

pub returns-in-Err-clause-current : goal.returns-in-Err-clause-current
returns-in-Err-clause-current g c = λ is. absurd (not_both (cc))

pub returns-in-Err-clause-elsewhere : goal.returns-in-Err-clause-elsewhere
returns-in-Err-clause-elsewhere g c = c.renew.ensures.elsewhere

pub returns-in-Err-clause-beside : goal.returns-in-Err-clause-beside
returns-in-Err-clause-beside g c = c.renew.ensures.beside

pub returns-in-Err-clause-any_moment : goal.returns-in-Err-clause-any_moment
returns-in-Err-clause-any_moment g c = c.renew.ensures.any_moment

pub returns-in-Err-clause-stands : goal.returns-in-Err-clause-stands
returns-in-Err-clause-stands g c = c.renew.ensures.stands

pub returns-in-Err-clause-synced : goal.returns-in-Err-clause-synced
returns-in-Err-clause-synced g c = tt

pub returns-in-Err-clause-sure : goal.returns-in-Err-clause-sure
returns-in-Err-clause-sure g c = tt

pub returns-in-Err-clause-closed : goal.returns-in-Err-clause-closed
returns-in-Err-clause-closed g c = tt

pub returns-in-Err-clause-one : goal.returns-in-Err-clause-one
returns-in-Err-clause-one g c = tt

pub returns-in-Err-clause-number : goal.returns-in-Err-clause-number
returns-in-Err-clause-number g c = tt

pub returns-in-Err-clause-few : goal.returns-in-Err-clause-few
returns-in-Err-clause-few g c = tt
