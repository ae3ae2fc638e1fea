-- What is given at the end of a piece of input, and where serving ends early.
use Rattle.std.proofs.Common.{◌≡◌, ℕ, false, List, [], map, Option, None, Result, Ok, Err, sym, ap, ◌∙◌, subst}
use Rattle.std.specs.Prelude.{All, OnOk, IfErr, is_err}
use Rattle.std.specs.Io.KnownBytes.{Appends}
use Rattle.tmem_fault.specs.declared.fault.Fault.{Fault}
use Rattle.tmem_fault.specs.declared.fault.Fault.TheVariants.{Memory}
use Rattle.tmem_desk.specs.Asking.{Store}
use Rattle.tmem_desk.specs.Desks.{DeskView}
use Rattle.tmem_desk.specs.Failing.{EndsBy}
use Rattle.tmem_desk.specs.Serving.{RunsLast, ServesEnd, with_closed}
use Rattle.tmem_desk.specs.Told.{told_last, told_lines, TellsOnly}
use Rattle.tmem_desk.specs.declared.failure.DeskFailure.{DeskFailure}
use Rattle.tmem_desk.specs.declared.failure.DeskFailure.TheVariants as failure
use Rattle.tmem_desk.specs.declared.told.Told.{Told}
use Rattle.tmem_desk.proofs.Ends.{ends_by_none, only_last}

-- two facts of one success
pub on_ok_both : {T E P Q R : Type 0} (r : Result T E) → (P → Q → R) → OnOk r P → OnOk r Q → OnOk r R
on_ok_both (Ok x) f p q = f p q
on_ok_both (Err e) f p q = tt

-- what holds of a success, where it was no failure
pub at_success : {T E P : Type 0} (r : Result T E) → is_err r ≡ false → OnOk r P → P
at_success (Ok x) fine is = is
at_success (Err e) fine is = cc

-- nothing was printed
pub ends_unprinted : {T : Type 0} (r : Result T DeskFailure) (contents : Option (List ℕ)) → IfErr r (EndsBy (Appends contents contents))
ends_unprinted (Ok x) contents = tt
ends_unprinted (Err f) contents = ends_by_none contents f

-- what was told at last was printed
pub ends_told : (fault : Fault) (d : Option ℕ) (all given : List Told) (prints : List ℕ → Type 0) → (fault ≡ Memory → d ≡ None) → given ≡ map (told_last d fault) all → prints (told_lines given) → EndsBy prints (failure.Fault fault)
ends_told fault d all given prints none is printed =
    (given, (λ memory. subst (λ (f : Fault). All (TellsOnly f) given) memory (subst (λ (l : List Told). All (TellsOnly fault) l) (sym is) (only_last d fault all (none memory)))), printed)

-- the end was served
pub serves_end : (s : Store) (text : List ℕ) (v ran mid w : DeskView) (prints : List ℕ → Type 0) → RunsLast s text v ran → mid ≡ with_closed ran → prints (told_lines mid.told) → w ≡ record mid { told = [] } → ServesEnd s text v w prints
serves_end s text v ran mid w prints runs closed printed is = record {
  ran = ran;
  runs = runs;
  printed = subst (λ (d : DeskView). prints (told_lines d.told)) closed printed;
  is = is ∙ ap (λ (d : DeskView). record d { told = [] }) closed;
}
