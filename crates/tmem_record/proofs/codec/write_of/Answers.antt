use Rattle.std.proofs.Common.{◌≡◌, ◌++◌, ℤ, sym, subst, arith}
use Rattle.std.specs.Int.{w64}
use Rattle.std.proofs.lemmas.Int.{to_z-of_z}
use Rattle.tmem_record.specs.Spelling.{value_bytes}
use Rattle.tmem_record.proofs.CodecReads.{no_room_for_write, no_such_variable, write_front}
use Rattle.tmem_record.proofs.codec.write_of.Goals as goal

pub returns-then-bytes-lt-WRITE_BYTES-clause-none : goal.returns-then-bytes-lt-WRITE_BYTES-clause-none
returns-then-bytes-lt-WRITE_BYTES-clause-none c = λ w rest within fits same. no_room_for_write c.args.bytes.now rest w (omega arith) same

pub returns-then-var-vars-clause-none : goal.returns-then-var-vars-clause-none
returns-then-var-vars-clause-none c = λ w rest within fits same. no_such_variable c.args.vars c.short_of-var.result.0 c.args.bytes.now _ c.short_of-var.ensures.parts (omega arith) (omega arith) w rest within same

pub returns-clause-found : goal.returns-clause-found
returns-clause-found c =
    let same = to_z-of_z w64 c.value_of-value.result.0 c.value_of-value.ensures.fits in
    write_front c.args.bytes.now _ _ c.short_of-var.result.0 _ c.short_of-var.ensures.parts (subst (λ (z : ℤ). c.short_of-var.result.1.now ≡ value_bytes z ++ c.value_of-value.result.1.now) (sym same) c.value_of-value.ensures.parts)
