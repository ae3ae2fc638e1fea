-- What is printed where serving ends early.
use Rattle.std.proofs.Common.{◌≡◌, ◌≢◌, ◌⊎◌, inl, inr, ℕ, Bool, true, false, List, [], get_or, map, Option, Some, None, refl, ap, sym, subst}
use Rattle.std.specs.Prelude.{All, IfSome, IsNone, if◌then◌else◌}
use Rattle.std.specs.Io.KnownBytes.{Appends}
use Rattle.std.proofs.lemmas.List.{append-nil}
use Rattle.std.proofs.lemmas.List.Elements.{All-nil, All-map, All-weaker}
use Rattle.tmem_fault.specs.declared.fault.Fault.{Fault}
use Rattle.tmem_fault.specs.declared.fault.Fault.TheVariants.{Memory}
use Rattle.tmem_answers.specs.declared.answer.Answer.{Answer}
use Rattle.tmem_answers.specs.declared.answer.Answer.TheVariants as answer
use Rattle.tmem_desk.specs.Failing.{EndsBy}
use Rattle.tmem_desk.specs.Told.{TellsOnly, TellsWithin, last_answer, rests_within, told_last}
use Rattle.tmem_desk.specs.declared.failure.DeskFailure.{DeskFailure}
use Rattle.tmem_desk.specs.declared.failure.DeskFailure.TheVariants.{Output}
use Rattle.tmem_desk.specs.declared.failure.DeskFailure.TheVariants as failure
use Rattle.tmem_desk.specs.declared.told.Told.{Told}
use Rattle.tmem_desk.specs.declared.told.Told.TheVariants as told

-- nothing was printed
pub appends_none : (contents : Option (List ℕ)) → Appends contents contents []
appends_none None = tt
appends_none (Some xs) = sym (append-nil xs)

pub ends_by_none : (contents : Option (List ℕ)) (f : DeskFailure) → EndsBy (Appends contents contents) f
ends_by_none contents (failure.Fault fault) = ([], (λ memory. All-nil (TellsOnly Memory)), appends_none contents)
ends_by_none contents Output = tt

-- ---- what is told at last

-- where none is known to be durable, each tells of the fault alone
only_one : (fault : Fault) (t : Told) → TellsOnly fault (told_last None fault t)
only_one fault (told.Answer a) = refl
only_one fault (told.NoRequest n) = tt

each_of : {P : Told → Type 0} (all : List Told) → ((t : Told) → P t) → All P all
each_of all every = λ k d within. every (get_or all k d)

pub only_last : (d : Option ℕ) (fault : Fault) (all : List Told) → d ≡ None → All (TellsOnly fault) (map (told_last d fault) all)
only_last d fault all none =
    subst (λ (o : Option ℕ). All (TellsOnly fault) (map (told_last o fault) all)) (sym none)
    (All-map (TellsOnly fault) (told_last None fault) all (each_of all (only_one fault)))

-- each tells of the fault, or of what rests on the first so many
within_answer : (n : ℕ) (fault : Fault) (given : Answer) → (last_answer (Some n) fault given ≡ answer.Fault fault) ⊎ (rests_within n (last_answer (Some n) fault given) ≡ true)
within_answer n fault given = either (rests_within n given) refl
  where
    either : (b : Bool) → rests_within n given ≡ b → ((if b then given else answer.Fault fault) ≡ answer.Fault fault) ⊎ (rests_within n (if b then given else answer.Fault fault) ≡ true)
    either true is = inr is
    either false is = inl refl

within_one : (n : ℕ) (fault : Fault) (t : Told) → TellsWithin n fault (told_last (Some n) fault t)
within_one n fault (told.Answer a) = within_answer n fault a.answer
within_one n fault (told.NoRequest refusal) = tt

pub only_within : (n : ℕ) (fault : Fault) (t : Told) → TellsOnly fault t → TellsWithin n fault t
only_within n fault (told.Answer a) is = inl is
only_within n fault (told.NoRequest refusal) is = tt

pub within_last : (d : Option ℕ) (n : ℕ) (fault : Fault) (all : List Told) → IfSome d (λ m. m ≡ n) → All (TellsWithin n fault) (map (told_last d fault) all)
within_last None n fault all counts = All-weaker (TellsOnly fault) (TellsWithin n fault) (only_within n fault) (map (told_last None fault) all) (only_last None fault all refl)
within_last (Some m) n fault all counts =
    subst (λ (k : ℕ). All (TellsWithin n fault) (map (told_last (Some k) fault) all)) (sym counts)
    (All-map (TellsWithin n fault) (told_last (Some n) fault) all (each_of all (within_one n fault)))

-- memory did not suffice, or so many are durable, and then this holds
pub unless_memory : {P : Type 0} (d : Option ℕ) (fault : Fault) (n : ℕ) → (IsNone d → fault ≡ Memory) → IfSome d (λ m. m ≡ n) → (d ≡ Some n → P) → (fault ≡ Memory) ⊎ P
unless_memory None fault n memory counts more = inl (memory refl)
unless_memory (Some m) fault n memory counts more = inr (more (ap Some counts))

-- it is another fault where so many are durable
pub no_memory : (d : Option ℕ) (fault : Fault) (n : ℕ) → (fault ≡ Memory → d ≡ None) → d ≡ Some n → fault ≢ Memory
no_memory d fault n memory durable wanting =
    let none : d ≡ None = memory wanting in
    cc
