use Rattle.std.proofs.Common.{◌-◌, ℕ, List, length, take, drop, refl, sym, ◌∙◌, ap, subst}
use Rattle.std.proofs.lemmas.Bool.{false≢true}
use Rattle.std.proofs.lemmas.Result.{err_from_is_err_and}
use Rattle.tmem_gate.specs.Gate.{IsOpenAt}
use Rattle.tmem_record.specs.Layout.{image_size}
use Rattle.tmem_image.proofs.Loading.{none_for, some_for, some_is, used_for, copy_within, has_gate, whole_read, image_found, gate_there, image_there}
use Rattle.tmem_image.proofs.choosing.load.Goals as goal

pub returns-clause-found : goal.returns-clause-found
returns-clause-found g c = λ k.
    let vars = c.args.layout.vars in
    let copy = c.args.copy in
    let size = image_size vars in
    let seen = (g.D.Disk.view c.args.disk.now).seen in
    let bytes = c.in_ok-bytes.bytes.items in
    let read = whole_read vars copy c.image.result (length c.args.room.bytes.items) seen c.in_ok-bytes.bytes.items c.image.ensures c.requires.room.bytes (c.in_ok-bytes.ensures.bytes k) in
    let opened = subst (λ (l : List ℕ). IsOpenAt 0 l) c.deref.ensures.value (c.reads_open.ensures.0 c.if-not-reads_open.false) in
    let behind = ap (λ (n : ℕ). take (n - 1) (drop 1 bytes)) (sym (c.in_ok-bytes.ensures.length ∙ c.requires.room.bytes)) ∙ ap (λ (l : List ℕ). take (length l - 1) (drop 1 l)) (sym c.deref-2.ensures.value) in
    some_for _ _ _ _ c.read_image.result c.ok_or.result c.ok_or.ensures.value c.read_image.ensures.number c.read_image.ensures.fits c.read_image.ensures.found
    (λ image number fits same. image_found vars copy size seen bytes refl read image.version image.generation image.state opened number fits (behind ∙ same))

pub returns-clause-refused : goal.returns-clause-refused
returns-clause-refused g c =
    none_for _ c.read_image.result c.ok_or.result c.ok_or.ensures.value c.read_image.ensures.none (λ other k v generation s holds.
    let vars = c.args.layout.vars in
    let copy = c.args.copy in
    let size = image_size vars in
    let seen = (g.D.Disk.view c.args.disk.now).seen in
    let bytes = c.in_ok-bytes.bytes.items in
    let read = whole_read vars copy c.image.result (length c.args.room.bytes.items) seen c.in_ok-bytes.bytes.items c.image.ensures c.requires.room.bytes (c.in_ok-bytes.ensures.bytes k) in
    let behind = ap (λ (l : List ℕ). take (length l - 1) (drop 1 l)) c.deref-2.ensures.value ∙ ap (λ (n : ℕ). take (n - 1) (drop 1 bytes)) (c.in_ok-bytes.ensures.length ∙ c.requires.room.bytes) in
    other v generation s holds.number holds.fits (behind ∙ image_there vars copy size seen bytes refl read v generation s holds))

pub returns-in_err-bytes-clause-number : goal.returns-in_err-bytes-clause-number
returns-in_err-bytes-clause-number g c = rw (err_from_is_err_and c.from_residual.result c.from_residual.ensures.1).1 tt

pub returns-in_err-bytes-clause-fits : goal.returns-in_err-bytes-clause-fits
returns-in_err-bytes-clause-fits g c = rw (err_from_is_err_and c.from_residual.result c.from_residual.ensures.1).1 tt

pub returns-in_err-bytes-clause-found : goal.returns-in_err-bytes-clause-found
returns-in_err-bytes-clause-found g c = rw (err_from_is_err_and c.from_residual.result c.from_residual.ensures.1).1 (λ _. tt)

pub returns-then-not-reads_open-clause-number : goal.returns-then-not-reads_open-clause-number
returns-then-not-reads_open-clause-number g c = tt

pub returns-then-not-reads_open-clause-fits : goal.returns-then-not-reads_open-clause-fits
returns-then-not-reads_open-clause-fits g c = tt

pub returns-then-not-reads_open-clause-found : goal.returns-then-not-reads_open-clause-found
returns-then-not-reads_open-clause-found g c = λ _. tt

pub returns-in_err-bytes-clause-reads_only : goal.returns-in_err-bytes-clause-reads_only
returns-in_err-bytes-clause-reads_only g c = c.read_piece.ensures.reads_only

pub returns-then-not-reads_open-clause-reads_only : goal.returns-then-not-reads_open-clause-reads_only
returns-then-not-reads_open-clause-reads_only g c = c.read_piece.ensures.reads_only

pub returns-clause-reads_only : goal.returns-clause-reads_only
returns-clause-reads_only g c = c.read_piece.ensures.reads_only

pub returns-then-not-reads_open-clause-refused : goal.returns-then-not-reads_open-clause-refused
returns-then-not-reads_open-clause-refused g c = λ k v generation s holds.
    let vars = c.args.layout.vars in
    let copy = c.args.copy in
    let seen = (g.D.Disk.view c.args.disk.now).seen in
    let read = whole_read vars copy c.image.result (length c.args.room.bytes.items) seen c.in_ok-bytes.bytes.items c.image.ensures c.requires.room.bytes (c.in_ok-bytes.ensures.bytes k) in
    let opened = subst (λ (l : List ℕ). IsOpenAt 0 l) (sym c.deref.ensures.value) (gate_there vars copy (image_size vars) seen c.in_ok-bytes.bytes.items refl read v generation s holds) in
    false≢true (sym c.if-not-reads_open.true ∙ c.reads_open.ensures.1 opened)

pub returns-clause-number : goal.returns-clause-number
returns-clause-number g c = some_is _ c.read_image.result c.ok_or.result c.ok_or.ensures.value c.read_image.ensures.number

pub returns-clause-fits : goal.returns-clause-fits
returns-clause-fits g c = some_is _ c.read_image.result c.ok_or.result c.ok_or.ensures.value c.read_image.ensures.fits

pub read_piece-requires : goal.read_piece-requires
read_piece-requires g c = copy_within c.args.layout.vars c.args.layout.slots c.args.copy c.image.result (length c.args.room.bytes.items) _ c.image.ensures c.requires.room.bytes c.requires.one c.requires.fits

pub slice_bounds-read_image-start : goal.slice_bounds-read_image-start
slice_bounds-read_image-start g c = has_gate c.args.layout.vars (length c.deref-2.result.now) (ap length c.deref-2.ensures.value ∙ c.in_ok-bytes.ensures.length ∙ c.requires.room.bytes)

pub slice_bounds-read_image-count : goal.slice_bounds-read_image-count
slice_bounds-read_image-count g c = has_gate c.args.layout.vars (length c.deref-2.result.now) (ap length c.deref-2.ensures.value ∙ c.in_ok-bytes.ensures.length ∙ c.requires.room.bytes)

pub returns-clause-uses : goal.returns-clause-uses
returns-clause-uses g c = used_for _ _ c.in_ok-bytes.bytes c.read_image.result c.ok_or.result c.ok_or.ensures.value c.in_ok-bytes.ensures.uses
