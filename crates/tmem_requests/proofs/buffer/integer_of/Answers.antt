use Rattle.std.proofs.Common.{◌≡◌, ◌^◌, ◌<◌, ℤ, pos, drop, true, Some, FitsSigned, w64, of_z, sym, ap, ◌∙◌, subst, arith, take_all, length-drop}
use Rattle.std.proofs.lemmas.Int.{to_z-of_z}
use Rattle.fast_float.specs.Text.{IsInteger, Parts, digits_of, scan, with_sign}
use Rattle.serde_json.specs.Find.{of_integer}
use Rattle.serde_json.specs.Read.{number_of}
use Rattle.tmem_requests.proofs.Numerals.{negative_number, unsigned_number}
use Rattle.tmem_requests.proofs.buffer.integer_of.Goals as goal

pub returns-then-not-is_negative : goal.returns-then-not-is_negative
returns-then-not-is_negative c =
    let s = c.as_bytes-bytes.result.now in
    let is = c.in_ok-to_u64.ensures in
    let parts = c.scan.ensures.parts in
    ap number_of (sym c.as_bytes-bytes.ensures.value)
    ∙ unsigned_number s c.in_ok-to_u64.field-0 (sym c.is_negative.ensures.minus ∙ c.if-not-is_negative.true) (subst IsInteger parts is.0.0) (subst (λ (p : Parts). digits_of p < 2 ^ 64) parts is.0.1) (is.1 ∙ ap digits_of parts)
    ∙ ap Some (sym c.from.ensures)

pub returns : goal.returns
returns c =
    let s = c.as_bytes-bytes.result.now in
    let is = c.in_ok-number.ensures in
    let parts : c.scan-2.result ≡ scan (drop 1 s) = c.scan-2.ensures.parts ∙ ap scan (take_all _ (drop 1 s) (omega (arith, length-drop 1 s))) in
    let some = λ (zero : c.in_ok-number.number ≡ pos 0). c.if-number-eq0.false (ap (of_z w64) zero) in
    ap number_of (sym c.as_bytes-bytes.ensures.value)
    ∙ negative_number s c.in_ok-number.number (sym c.is_negative.ensures.minus ∙ c.if-not-is_negative.false) (subst IsInteger parts is.0.0)
    (subst (λ (p : Parts). FitsSigned w64 (with_sign true (digits_of p))) parts is.0.1) (is.1 ∙ ap (λ (p : Parts). with_sign true (digits_of p)) parts) some
    ∙ ap (λ (z : ℤ). Some (of_integer z)) (sym (to_z-of_z w64 c.in_ok-number.number (subst (FitsSigned w64) (sym is.1) is.0.1)))
    ∙ ap Some (sym c.from-2.ensures)
