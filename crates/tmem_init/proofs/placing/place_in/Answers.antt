use Rattle.std.proofs.Common.{◌≡◌, ◌∙◌, Result, Ok, Err, subst, sym, arith}
use Rattle.std.specs.Result.{IsErrAnd}
use Rattle.tmem_init.specs.Placed.{IsEarly}
use Rattle.tmem_init.specs.declared.error.InitError.{InitError}
use Rattle.tmem_init.specs.declared.error.InitError.TheVariants.{NotBlank}
use Rattle.tmem_file.specs.FileView.{file_view, file_is_device}
use Rattle.tmem_init.proofs.Whole.{overwritten_whole}
use Rattle.tmem_init.proofs.placing.place_in.Goals as goal

pub returns-clause-holds : goal.returns-clause-holds
returns-clause-holds g c = λ k.
    let found = c.in_ok-disk.disk in
    let long = (file_is_device found).seen_is_whole c.in_ok-disk.ensures.opened.model in
    let most = c.in_ok-disk.ensures.most in
    c.in_ok-put_on.ensures.made k ∙ overwritten_whole (file_view found).seen c.args.content.now c.requires (omega (arith, long, most))

-- the error that was passed on
error_is : {T E : Type 0} (r : Result T E) (e f : E) → IsErrAnd r (λ y. y ≡ e) → r ≡ Err f → e ≡ f
error_is (Ok x) e f has is = absurd (cc)
error_is (Err y) e f has is = cc

pub returns-in_err-put_on-clause-not_blank : goal.returns-in_err-put_on-clause-not_blank
returns-in_err-put_on-clause-not_blank g c = λ is.
    let full = error_is c.from_residual-in_err-put_on.result c.in_err-put_on.field-0.0 NotBlank c.from_residual-in_err-put_on.ensures.1 is in
    let told : c.put_on.result ≡ Err NotBlank = subst (λ (e : InitError). c.put_on.result ≡ Err e) full c.in_err-put_on.was in
    record {
      found = c.in_ok-disk.disk;
      opened = c.in_ok-disk.ensures.opened;
      handed = c.put_on.new.disk;
      reads_only = c.in_err-put_on.ensures.early (subst IsEarly (sym full) tt);
      other = c.put_on.ensures.not_blank told;
    }
