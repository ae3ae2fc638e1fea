-- The line of the state.
use Rattle.std.proofs.Common.{◌≡◌, ℕ, Bool, true, false, List, [], ◌∷◌, ◌++◌, Option, codes, refl, sym, ap, subst, ◌∙◌, append_assoc}
use Rattle.std.specs.Fmt.{decimal}
use Rattle.std.specs.Io.KnownBytes.{Appends}
use Rattle.tmem_fault.specs.Fault.{text_of}
use Rattle.tmem_fault.specs.declared.fault.Fault.TheVariants as fault
use Rattle.tmem_effect.specs.State.{State}
use Rattle.tmem_core.specs.Program.{Program}
use Rattle.tmem_world.specs.declared.held.Held.{Held}
use Rattle.tmem_world.specs.declared.held.Held.TheVariants.{With, Without}
use Rattle.tmem_world.specs.Parts.{IsWith}
use Rattle.tmem_world.specs.declared.world.World.{World}
use Rattle.tmem_world.specs.WorldModel.{WorldModel, present}
use Rattle.tmem_world.specs.Represents.{Represents, HeldIs, HasCore, held_of, core_status}
use Rattle.tmem_run.specs.Printed.{line, listed, registered, values_text, state_text, shown}
use Rattle.tmem_run.proofs.Laws.{Appends-then}

of_open : (vars : ℕ) (state : State) (is_shut : Bool) → shown vars (core_status is_shut) state ≡ state_text vars state
of_open vars state true = refl
of_open vars state false = refl

module _ {D T : Type 0} {d t : _} (program : Program) (m : WorldModel) (vars : ℕ) (state : State) where
  of_core : (h : Held D T d t) → HeldIs program h m → IsWith h → shown vars m.status state ≡ state_text vars state
  of_core (Without left) has is = absurd is
  of_core (With o) has is = ap (λ x. shown vars x state) has.status ∙ of_open vars state _

  of_none : (h : Held D T d t) → HeldIs program h m → (IsWith h → ⊥) → shown vars m.status state ≡ text_of fault.Closed
  of_none (Without left) has none_held = ap (λ x. shown vars x state) has
  of_none (With o) has none_held = absurd (none_held tt)

module _ {D T S : Type 0} {d t s : _} (program : Program) (w : World D T S d t s) (m : WorldModel) (at : Represents program w m) where
  -- without a core the refusal is shown
  pub refusal_written : (vars : ℕ) (before after : Option (List ℕ)) → (HasCore w → ⊥) → Appends before after (line (text_of fault.Closed)) → Appends before after (line (shown vars m.status (present program m)))
  refusal_written vars before after none_held so = subst (λ text. Appends before after (line text)) (sym (of_none program m vars (present program m) (held_of w) at.held none_held)) so

  -- with a core the parts of the line are written one after another
  pub state_written : (vars : ℕ) (before named names valued values after : Option (List ℕ)) (count : ℕ) → HasCore w → count ≡ (present program m).count
      → Appends before named (codes "state count=" ++ (decimal count ++ codes " names="))
      → Appends named names (listed (registered (present program m)))
      → Appends names valued (codes " values=")
      → Appends valued values (listed (values_text vars (present program m)))
      → Appends values after (line [])
      → Appends before after (line (shown vars m.status (present program m)))
  state_written vars before named names valued values after count stands is one two three four five =
      let state = present program m in
      let a = codes "state count=" in
      let b = codes " names=" in
      let all = Appends-then before named after _ _ one (Appends-then named names after _ _ two (Appends-then names valued after _ _ three (Appends-then valued values after _ _ four five))) in
      let n = listed (registered state) in
      let c = codes " values=" in
      let v = listed (values_text vars state) in
      let spelled : (a ++ (decimal count ++ b)) ++ (n ++ (c ++ (v ++ ([] ++ 10 ∷ [])))) ≡ line (state_text vars state) =
      ap (λ (k : ℕ). (a ++ (decimal k ++ b)) ++ (n ++ (c ++ (v ++ (10 ∷ []))))) is ∙ regroup a (decimal state.count) b n c v (10 ∷ []) in
      subst (λ text. Appends before after (line text)) (sym (of_core program m vars state (held_of w) at.held stands)) (subst (Appends before after) spelled all)
    where
      regroup : (a k b n c v e : List ℕ) → (a ++ (k ++ b)) ++ (n ++ (c ++ (v ++ e))) ≡ ((((((a ++ k) ++ b) ++ n) ++ c) ++ v) ++ e)
      regroup a k b n c v e = simp append_assoc
