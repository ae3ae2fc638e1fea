-- An empty store is built: what stands at each moment.
use Rattle.std.proofs.Common.{◌≡◌, inl, ⊎_elim, ◌≤◌, ◌+◌, ℕ, suc, Option, Some, None, List, [], ◌∷◌, ◌++◌, length, take, drop, replicate, sym, ◌∙◌, ap, subst, ◌-◌, arith}
use Rattle.std.specs.Prelude.{◌⊎◌, Result, Ok, Err, IfErr}
use Rattle.std.proofs.lemmas.List.{take-append-drop, drop_at, length-replicate}
use Rattle.tmem_disk.specs.Disk.{DeviceView, SameOutside, AtEachMoment, Elapses, overwritten}
use Rattle.tmem_disk.proofs.Laws.{either_time}
use Rattle.tmem_fault.specs.declared.fault.Fault.{Fault}
use Rattle.tmem_fault.specs.declared.fault.Fault.TheVariants.{Device, Unknown}
use Rattle.tmem_gate.specs.Calls.{MadeBy}
use Rattle.tmem_gate.specs.Changes.{Either, Meanwhile, call_outcome}
use Rattle.tmem_gate.specs.Gate.{IsOpenOver}
use Rattle.tmem_effect.specs.State.{first_state}
use Rattle.tmem_record.specs.Layout.{IsLayout, end_at}
use Rattle.tmem_journal.specs.Formatted.{open_cell, formatted}
use Rattle.tmem_journal.specs.Contents.{first_position, HoldsState, ContentRepresents}
use Rattle.tmem_journal.proofs.FormattedContent.{formatted_represents}

-- what holds at each moment of two calls holds at each moment of both
pub both_moments : (old mid new : DeviceView) (P R : List ℕ → Type 0) → (new.keeps_model → mid.keeps_model) → (mid.keeps_model → old.moment ≤ mid.moment) → Elapses mid new R → AtEachMoment old mid P → AtEachMoment mid new P → AtEachMoment old new P
both_moments old mid new P R model later time first second = record {
  each = λ keeps c left. ⊎_elim (λ was. first.each (model keeps) c was) (λ is. second.each keeps c is) (either_time old mid new R model later time keeps c left);
}

-- what is not there at each moment is there or not
or_whole : (old new : DeviceView) (W V : List ℕ → List ℕ → Type 0) → AtEachMoment old new (MadeBy W old) → AtEachMoment old new (MadeBy (Either W V) old)
or_whole old new W V moment = record { each = λ k c left. let it = moment.each k c left in (it.0, it.1, inl it.2) }

-- whatever a cell's call was answered, it is there or it is not
pub there_or_not : (old new : DeviceView) (W V : List ℕ → List ℕ → Type 0) (r : Result (Unit {0}) Fault) → IfErr r (λ f. (f ≡ Device) ⊎ (f ≡ Unknown)) → AtEachMoment old new (Meanwhile W V old (call_outcome r)) → AtEachMoment old new (MadeBy (Either W V) old)
there_or_not old new W V (Ok done) errors moment = moment
there_or_not old new W V (Err f) errors moment = ⊎_elim
    (λ is. or_whole old new W V (subst (λ (g : Fault). AtEachMoment old new (Meanwhile W V old (call_outcome (Err g)))) is moment))
    (λ is. subst (λ (g : Fault). AtEachMoment old new (Meanwhile W V old (call_outcome (Err g)))) is moment)
    errors

-- a content that is as another but for the cell in front, which stands open over these bytes
pub as_written : (body seen c : List ℕ) → SameOutside 0 (1 + length body) seen c → IsOpenOver 0 body c → c ≡ overwritten seen 0 (open_cell body)
as_written body seen [] same cell = absurd (none cell.gate)
  where
    nothing : Option ℕ
    nothing = None

    none : nothing ≡ Some 0xA5 → ⊥
    none e = cc
as_written body seen (x ∷ xs) same cell =
    let all : length body ≡ 0 + 1 + length body - (0 + 1) = omega arith in
    let there : take (length body) xs ≡ body = ap (λ (k : ℕ). take k (drop (0 + 1) (x ∷ xs))) all ∙ cell.body in
    let cell_long : 0 + (1 + length body) ≡ suc (length body) = omega arith in
    let rest : drop (length body) xs ≡ drop (suc (length body)) seen = subst (λ (k : ℕ). drop k (x ∷ xs) ≡ drop k seen) cell_long same.after in
    let whole : suc (length body) ≡ 0 + suc (length body) = omega arith in
    ap (λ (y : ℕ). y ∷ xs) (first cell.gate)
    ∙ ap (λ (l : List ℕ). 0xA5 ∷ l) (sym (take-append-drop (length body) xs) ∙ ap (λ (l : List ℕ). l ++ drop (length body) xs) there ∙ ap (λ (l : List ℕ). body ++ l) (rest ∙ ap (λ (k : ℕ). drop k seen) whole))
  where
    first : Some x ≡ Some 0xA5 → x ≡ 0xA5
    first e = cc

-- what is as the formatted content represents the first state
pub represents_formatted : (vars slots : ℕ) → IsLayout vars slots → (rest c : List ℕ) → c ≡ formatted vars slots ++ rest → ContentRepresents vars slots first_position (first_state vars) c
represents_formatted vars slots layout rest c is = ∣ subst (λ (l : List ℕ). HoldsState vars slots first_position (first_state vars) l) (sym is) (formatted_represents vars slots rest layout) ∣₁

-- behind zeros there is what was there
behind : (e : ℕ) (old mid : List ℕ) → mid ≡ replicate e 0 ++ drop e old → drop e mid ≡ drop e old
behind e old mid zeros = ap (λ (l : List ℕ). drop e l) zeros ∙ drop_at (replicate e 0) (drop e old) e (length-replicate e 0)

pub still_zeros : (e f : ℕ) (old mid : List ℕ) → e ≡ f → mid ≡ replicate e 0 ++ drop e old → mid ≡ replicate f 0 ++ drop f mid
still_zeros e f old mid is zeros =
    subst (λ (n : ℕ). mid ≡ replicate n 0 ++ drop n mid) is (zeros ∙ ap (λ (l : List ℕ). replicate e 0 ++ l) (sym (behind e old mid zeros)))

pub same_rest : (v s v' s' e : ℕ) (old mid : List ℕ) → v ≡ v' → s ≡ s' → e ≡ end_at v s → mid ≡ replicate e 0 ++ drop e old → formatted v s ++ drop (end_at v s) mid ≡ formatted v' s' ++ drop (end_at v' s') old
same_rest v s v' s' e old mid vars slots end zeros =
    let there = subst (λ (n : ℕ). drop n mid ≡ drop n old) end (behind e old mid zeros) in
    ap (λ (l : List ℕ). formatted v s ++ l) there
    ∙ ap (λ (n : ℕ). formatted n s ++ drop (end_at n s) old) vars
    ∙ ap (λ (n : ℕ). formatted v' n ++ drop (end_at v' n) old) slots
