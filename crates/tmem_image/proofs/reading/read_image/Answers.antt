use Rattle.std.proofs.Common.{◌≡◌, ℕ, ℤ, List, refl, sym, ◌∙◌, ap, subst, arith, length}
use Rattle.std.proofs.lemmas.Bool.{false≢true}
use Rattle.tmem_effect.specs.Names.{AreRegistered}
use Rattle.tmem_record.specs.Spelling.{number_bytes}
use Rattle.tmem_state.specs.Versions.{version_byte}
use Rattle.tmem_record.specs.StandsAt.{StandsAt, values_bytes}
use Rattle.tmem_record.proofs.Laws.{one_number_at}
use Rattle.tmem_image.specs.Spelling.{names_body}
use Rattle.tmem_image.proofs.Imaging.{split_image, join_image, version_stands, version_there, names_stand, names_part}
use Rattle.tmem_image.proofs.reading.read_image.Goals as goal

pub returns-then-not-is_padded-clause-none : goal.returns-then-not-is_padded-clause-none
returns-then-not-is_padded-clause-none c = λ v generation s number fits same.
    false≢true (sym c.if-not-is_padded.true ∙ c.is_padded.ensures.1 (split_image v c.args.vars generation s fits.names fits.values c.args.bytes.now same).padded)

pub returns-then-generation-eq0-clause-none : goal.returns-then-generation-eq0-clause-none
returns-then-generation-eq0-clause-none c = λ v generation s number fits same.
    let zero : c.number_at-generation.result ≡ 0 = omega (arith, c.if-generation-eq0.true) in
    let there = (split_image v c.args.vars generation s fits.names fits.values c.args.bytes.now same).first in
    let one = one_number_at 8 0 c.number_at-generation.result generation c.args.bytes.now (omega (arith, zero)) (omega (arith, number.fits)) c.number_at-generation.ensures there in
    absurd (omega (arith, zero, one, number.some))

pub returns-then-not-read_names-clause-none : goal.returns-then-not-read_names-clause-none
returns-then-not-read_names-clause-none c = λ v generation s number fits same.
    c.if-not-read_names.ensures.none s.names fits.names (names_part s.names c.args.bytes.now _ fits.names refl (split_image v c.args.vars generation s fits.names fits.values c.args.bytes.now same).names)

pub returns-in_err-version-clause-none : goal.returns-in_err-version-clause-none
returns-in_err-version-clause-none c =
    rw c.from_residual.ensures (λ v generation s number fits same.
    c.in_err-version.ensures.none v (version_there (version_byte v) c.args.bytes.now (omega (arith, c.requires.long)) (split_image v c.args.vars generation s fits.names fits.values c.args.bytes.now same).byte))

pub returns-clause-found : goal.returns-clause-found
returns-clause-found c =
    let registered = c.if-not-read_names.ensures.are_registered in
    let long = ap length c.of-state.ensures.values ∙ c.read_values.ensures.length in
    let byte = version_stands _ c.args.bytes.now (omega (arith, c.requires.long)) c.in_ok-version.ensures.found in
    let names = names_stand c.read_names.new.names c.args.bytes.now _ registered refl c.if-not-read_names.ensures.found in
    join_image c.in_ok-version.version c.args.vars c.number_at-generation.result c.of-state.result (subst AreRegistered (sym c.of-state.ensures.names) registered) long c.args.bytes.now c.requires.long (record {
      first = c.number_at-generation.ensures;
      count = subst (λ (n : ℕ). StandsAt 8 (number_bytes 8 n) c.args.bytes.now) (sym c.of-state.ensures.count) c.number_at-count.ensures;
      names = subst (λ (ns : List (List ℕ)). StandsAt 16 (names_body ns) c.args.bytes.now) (sym c.of-state.ensures.names) names;
      byte = byte;
      values = subst (λ (zs : List ℤ). StandsAt 2047 (values_bytes zs) c.args.bytes.now) (sym c.of-state.ensures.values) c.read_values.ensures.values;
      padded = c.is_padded.ensures.0 c.if-not-is_padded.false;
    })
