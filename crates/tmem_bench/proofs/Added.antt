-- What a transaction adds to a pass.
use Rattle.std.proofs.Common.{◌≡◌, ℕ, ◌<◌, ◌≤◌, ◌+◌, ◌-◌, ◌==◌, Bool, true, false, List, [], ◌∷◌, ◌++◌, length, Option, Some, None, Result, Ok, Err, inl, inr, refl, ap, sym, ◌∙◌, subst, arith, length-append}
use Rattle.std.specs.Prelude.{ℤ, if◌then◌else◌}
use Rattle.std.proofs.lemmas.List.{append-nil, append_assoc}
use Rattle.std.proofs.lemmas.List.Elements.{All-nil, All-cons, All-append, All-weaker}
use Rattle.std.proofs.Math.Logic.{∥∥₁_map, ∥∥₁_elim, ∥∥₁_prop}
use Rattle.tmem_fault.specs.declared.fault.Fault.{Fault}
use Rattle.tmem_fault.specs.declared.fault.Fault.TheVariants as fault
use Rattle.tmem_effect.specs.Prefix.{IsPrefix}
use Rattle.tmem_effect.proofs.Laws.{IsPrefix-length}
use Rattle.tmem_effect.specs.State.{State, is_empty}
use Rattle.tmem_effect.specs.declared.effect.Effect.{Effect}
use Rattle.tmem_tentative.specs.declared.attempt.Attempt.{Attempt}
use Rattle.tmem_tentative.specs.declared.attempt.Ending as ending
use Rattle.tmem_tentative.specs.declared.attempt.Ending.TheVariants as ended
use Rattle.tmem_tree.specs.declared.settled.Settled.{Settled}
use Rattle.tmem_tree.specs.declared.settled.Settled.TheVariants.{Committed, Seen, Retry, Aborted, Refused}
use Rattle.tmem_core.specs.Program.{Program}
use Rattle.tmem_core.specs.Verdict.{first_broken, committed}
use Rattle.tmem_core.specs.SettleAnswer.{settle_answer, ending_answer, sound_answer, unless_refused, has_changed}
use Rattle.tmem_spine.specs.declared.view.MarkedEffect.{MarkedEffect}
use Rattle.tmem_spine.specs.History.{count}
use Rattle.tmem_spine.specs.Views.{PassRoleView}
use Rattle.tmem_seats.specs.Histories.{state_after_history, numbered}
use Rattle.tmem_tree.specs.declared.tx.Tx.{Tx}
use Rattle.tmem_seats.specs.Settling.{SettlesPass, SettlesAtLast, SettlesDurably, SeesMore}
use Rattle.tmem_bench.specs.Counting.{AddsDurable, is_commit, once}

-- the number of a transaction that was committed
abbrev number_in : Settled → Option ℕ
number_in (Committed number registers) = Some number
number_in _ = None

-- the answer commits under this number alone
abbrev Numbers : ℕ → Result Settled Fault → Type 0
Numbers n r = (number : ℕ) (settled : Settled) → Ok settled ≡ r → number_in settled ≡ Some number → number ≡ n

-- a refusal commits nothing
no_err : (n : ℕ) (f : Fault) → Numbers n (Err f)
no_err n f = λ number settled e is. cc

-- an answer that is no commit has no number
no_number : (n : ℕ) (s : Settled) → number_in s ≡ None → Numbers n (Ok s)
no_number n s none = λ number settled e is.
    let same : settled ≡ s = cc in
    let other : number_in s ≡ Some number = subst (λ (x : Settled). number_in x ≡ Some number) same is in
    cc

one_number : (n : ℕ) (registers : List ℤ) → Numbers n (Ok (Committed n registers))
one_number n registers = λ number settled e is.
    let same : settled ≡ Committed n registers = cc in
    let other : Some n ≡ Some number = subst (λ (x : Settled). number_in x ≡ Some number) same is in
    cc

of_sound : (empty full spent : Bool) (n : ℕ) (registers : List ℤ) → Numbers n (if empty then Ok (Seen n registers) else (if full then Err fault.Full else (if spent then Err fault.Spent else Ok (Committed n registers))))
of_sound true full spent n registers = no_number n (Seen n registers) refl
of_sound false true spent n registers = no_err n fault.Full
of_sound false false true n registers = no_err n fault.Spent
of_sound false false false n registers = one_number n registers

of_broken : (broken : Option (List ℕ)) (n : ℕ) (r : Result Settled Fault) → Numbers n r → Numbers n (unless_refused broken r)
of_broken (Some name) n r numbers = no_number n (Refused name) refl
of_broken None n r numbers = numbers

of_ending : (p : Program) (end : ending.Ending) (s : State) (durable : ℕ) (e : Effect) (registers : List ℤ) → Numbers s.count (ending_answer p end s durable e registers)
of_ending p ended.Normal s durable e registers =
    of_broken (first_broken p s e) s.count (sound_answer s durable e registers) (of_sound (is_empty e) (s.count - durable == 256) (s.count == 18446744073709551615) s.count registers)
of_ending p ended.Retry s durable e registers = no_number s.count Retry refl
of_ending p (ended.Abort code) s durable e registers = no_number s.count (Aborted code) refl
of_ending p (ended.Broken name) s durable e registers = no_number s.count (Refused name) refl

of_open : (stale : Bool) (n : ℕ) (r : Result Settled Fault) → Numbers n r → Numbers n (if stale then Err fault.Conflict else r)
of_open true n r numbers = no_err n fault.Conflict
of_open false n r numbers = numbers

of_core : (shut stale : Bool) (n : ℕ) (r : Result Settled Fault) → Numbers n r → Numbers n (if shut then Err fault.Closed else (if stale then Err fault.Conflict else r))
of_core true stale n r numbers = no_err n fault.Closed
of_core false stale n r numbers = of_open stale n r numbers

-- what a core commits has the number of those before it
committed_number : (p : Program) (shut : Bool) (s : State) (durable : ℕ) (a : Attempt) → Numbers s.count (settle_answer p shut s durable a)
committed_number p shut s durable a = of_core shut (has_changed s a.reads.entries) s.count _ (of_ending p a.ending s durable a.effect a.registers)

-- one effect is committed by an answer with a number, and none by the others
commits_one : (s : Settled) (e : Effect) (n : ℕ) → number_in s ≡ Some n → committed s e ≡ e ∷ []
commits_one (Committed number registers) e n is = refl
commits_one (Seen at registers) e n is = cc
commits_one Retry e n is = cc
commits_one (Aborted code) e n is = cc
commits_one (Refused name) e n is = cc

commits_none : (s : Settled) (e : Effect) → number_in s ≡ None → committed s e ≡ []
commits_none (Committed number registers) e is = cc
commits_none (Seen at registers) e is = refl
commits_none Retry e is = refl
commits_none (Aborted code) e is = refl
commits_none (Refused name) e is = refl

-- a transaction that was settled at last, where there was memory
settles : (start : ℕ) (opening : State) (p : Program) (tx : Tx) (old mid : PassRoleView) (r : Result Settled Fault) (settled : Settled)
    → r ≡ Ok settled → SettlesAtLast start opening p tx old r mid → ∥ ((attempt : Attempt) × SettlesPass start opening p attempt old (Ok settled) mid) ∥₁
settles start opening p tx old mid r settled was last = elim last [
  | inl memory ↦ let bad : Ok settled ≡ Err fault.Memory = sym was ∙ memory.0 in cc
  | inr held ↦ ∥∥₁_map held (λ h. (h.0, subst (λ (x : Result Settled Fault). SettlesPass start opening p h.0 old x mid) was h.2))
]

prefix_count : (start : ℕ) (xs ys : List MarkedEffect) → IsPrefix xs ys → count start xs ≤ count start ys
prefix_count start xs ys begins = let shorter = IsPrefix-length xs ys begins in omega (arith, shorter)

-- a transaction that was committed, and then awaited
one : (start : ℕ) (opening : State) (p : Program) (attempt : Attempt) (old mid new : PassRoleView) (settled : Settled) (n : ℕ)
    → SettlesPass start opening p attempt old (Ok settled) mid → number_in settled ≡ Some n
    → new ≡ record mid { seen = new.seen; known = new.known } → IsPrefix mid.seen new.seen → n < count start new.seen → AddsDurable start old 1 new
one start opening p attempt old mid new settled n s is same later durable =
    let at : n ≡ count start s.before = committed_number p s.is_shut (state_after_history opening s.before) s.durable attempt n settled s.answered is ∙ s.number in
    record {
      added = (n, attempt.effect) ∷ [];
      own = ap (λ (v : PassRoleView). v.own) same ∙ (ap (λ (v : PassRoleView). v.own) s.pass
          ∙ (ap (λ (es : List Effect). old.own ++ numbered (count start s.before) es) (commits_one settled attempt.effect n is) ∙ ap (λ (k : ℕ). old.own ++ (k, attempt.effect) ∷ []) (sym at)));
      many = refl;
      durable = All-cons (λ (it : ℕ × Effect). it.0 < count start new.seen) (n, attempt.effect) [] durable (All-nil (λ (it : ℕ × Effect). it.0 < count start new.seen));
      later = subst (λ (l : List MarkedEffect). count start l ≤ count start new.seen) (ap (λ (v : PassRoleView). v.seen) s.pass) (prefix_count start mid.seen new.seen later);
    }

-- one that was not
none : (start : ℕ) (opening : State) (p : Program) (attempt : Attempt) (old new : PassRoleView) (settled : Settled)
    → SettlesPass start opening p attempt old (Ok settled) new → number_in settled ≡ None → AddsDurable start old 0 new
none start opening p attempt old new settled s is = record {
  added = [];
  own = ap (λ (v : PassRoleView). v.own) s.pass ∙ ap (λ (es : List Effect). old.own ++ numbered (count start s.before) es) (commits_none settled attempt.effect is);
  many = refl;
  durable = All-nil (λ (it : ℕ × Effect). it.0 < count start new.seen);
  later = subst (λ (l : List MarkedEffect). count start old.seen ≤ count start l) (sym (ap (λ (v : PassRoleView). v.seen) s.pass)) (omega arith);
}

-- nothing was done yet
pub nothing : (start : ℕ) (old : PassRoleView) → AddsDurable start old 0 old
nothing start old = record {
  added = [];
  own = sym (append-nil old.own);
  many = refl;
  durable = All-nil (λ (it : ℕ × Effect). it.0 < count start old.seen);
  later = omega arith;
}

-- one thing after another
pub both : (start : ℕ) (old mid new : PassRoleView) (n m k : ℕ) → AddsDurable start old n mid → AddsDurable start mid m new → k ≡ n + m → AddsDurable start old k new
both start old mid new n m k a b is = record {
  added = a.added ++ b.added;
  own = b.own ∙ (ap (λ (l : List (ℕ × Effect)). l ++ b.added) a.own ∙ append_assoc old.own a.added b.added);
  many = length-append a.added b.added ∙ (ap (λ (l : ℕ). l + length b.added) a.many ∙ (ap (λ (l : ℕ). n + l) b.many ∙ sym is));
  durable = All-append (λ (it : ℕ × Effect). it.0 < count start new.seen) a.added b.added
      (All-weaker (λ (it : ℕ × Effect). it.0 < count start mid.seen) (λ (it : ℕ × Effect). it.0 < count start new.seen) (λ it less. let more = b.later in omega (arith, less, more)) a.added a.durable)
      b.durable;
  later = let x = a.later in let y = b.later in omega (arith, x, y);
}

-- the same where the first was kept from view
pub both_held : (start : ℕ) (old mid new : PassRoleView) (n m k : ℕ) → ∥ AddsDurable start old n mid ∥₁ → ∥ AddsDurable start mid m new ∥₁ → k ≡ n + m → ∥ AddsDurable start old k new ∥₁
both_held start old mid new n m k a b is = ∥∥₁_elim a ∥∥₁_prop (λ x. ∥∥₁_map b (λ y. both start old mid new n m k x y is))

-- looks add nothing
sees : (start : ℕ) (old new : PassRoleView) → SeesMore old new → AddsDurable start old 0 new
sees start old new more = record {
  added = [];
  own = ap (λ (v : PassRoleView). v.own) more.pass ∙ sym (append-nil old.own);
  many = refl;
  durable = All-nil (λ (it : ℕ × Effect). it.0 < count start new.seen);
  later = prefix_count start old.seen new.seen more.seen;
}

-- what was settled first, where the answer is no refusal
first : (start : ℕ) (opening : State) (p : Program) (tx : Tx) (old new : PassRoleView) (settled : Settled) (s : SettlesDurably start opening p tx old (Ok settled) new)
    → ∥ ((attempt : Attempt) × SettlesPass start opening p attempt old (Ok settled) s.then) ∥₁
first start opening p tx old new settled s = elim s.answered [
  | inl same ↦ settles start opening p tx old s.then s.first settled (sym same) s.settled
  | inr unknown ↦ cc
]

adds_one : (start : ℕ) (opening : State) (p : Program) (tx : Tx) (old new : PassRoleView) (n : ℕ) (registers : List ℤ)
    → SettlesDurably start opening p tx old (Ok (Committed n registers)) new → ∥ AddsDurable start old 1 new ∥₁
adds_one start opening p tx old new n registers s =
    ∥∥₁_map (first start opening p tx old new (Committed n registers) s)
    (λ held. one start opening p held.0 old s.then new (Committed n registers) n held.1 refl s.sees.pass s.sees.seen s.durable)

adds_none : (start : ℕ) (opening : State) (p : Program) (tx : Tx) (old new : PassRoleView) (settled : Settled)
    → number_in settled ≡ None → SettlesDurably start opening p tx old (Ok settled) new → ∥ AddsDurable start old 0 new ∥₁
adds_none start opening p tx old new settled is s =
    ∥∥₁_map (first start opening p tx old new settled s)
    (λ held. both start old s.then new 0 0 0 (none start opening p held.0 old s.then settled held.1 is) (sees start s.then new s.sees) refl)

adds : (start : ℕ) (opening : State) (p : Program) (tx : Tx) (old new : PassRoleView) (settled : Settled)
    → SettlesDurably start opening p tx old (Ok settled) new → ∥ AddsDurable start old (once (is_commit settled)) new ∥₁
adds start opening p tx old new (Committed n registers) s = adds_one start opening p tx old new n registers s
adds start opening p tx old new (Seen at registers) s = adds_none start opening p tx old new (Seen at registers) refl s
adds start opening p tx old new Retry s = adds_none start opening p tx old new Retry refl s
adds start opening p tx old new (Aborted code) s = adds_none start opening p tx old new (Aborted code) refl s
adds start opening p tx old new (Refused name) s = adds_none start opening p tx old new (Refused name) refl s

-- a transaction that was committed durably, or was not committed
pub adds_held : (start : ℕ) (opening : State) (p : Program) (tx : Tx) (old new : PassRoleView) (r : Result Settled Fault) (settled : Settled) (is : Bool)
    → r ≡ Ok settled → is ≡ is_commit settled → ∥ SettlesDurably start opening p tx old r new ∥₁ → ∥ AddsDurable start old (once is) new ∥₁
adds_held start opening p tx old new r settled is was same held =
    ∥∥₁_elim (subst (λ (x : Result Settled Fault). ∥ SettlesDurably start opening p tx old x new ∥₁) was held) ∥∥₁_prop
    (λ s. subst (λ (b : Bool). ∥ AddsDurable start old (once b) new ∥₁) (sym same) (adds start opening p tx old new settled s))
