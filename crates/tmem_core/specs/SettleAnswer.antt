-- What settling an attempt answers, and what it commits.
use Rattle.std.specs.Prelude.{◌≡◌, ⊤, ◌-◌, ◌^◌, ℕ, ℤ, Bool, true, not, ◌==◌, List, [], Option, Some, None, Result, Ok, Err, IfOk, if◌then◌else◌}
use Rattle.std.specs.List.{list_any}
use Rattle.std.specs.Ordering.{int_eq}
use Rattle.tmem_fault.specs.declared.fault.Fault.{Fault}
use Rattle.tmem_fault.specs.declared.fault.Fault.TheVariants as fault
use Rattle.tmem_effect.specs.Names.{has_name}
use Rattle.tmem_effect.specs.State.{State, is_empty}
use Rattle.tmem_effect.specs.declared.effect.Effect.{Effect}
use Rattle.tmem_tree.specs.declared.tx.Tx.{Tx}
use Rattle.tmem_tentative.specs.declared.attempt.Attempt.{Attempt}
use Rattle.tmem_tentative.specs.declared.attempt.Ending as ending
use Rattle.tmem_tentative.specs.declared.attempt.Ending.TheVariants as ended
use Rattle.tmem_tree.specs.declared.settled.Settled.{Settled}
use Rattle.tmem_tree.specs.declared.settled.Settled.TheVariants.{Committed, Seen, Retry, Aborted, Refused}
use Rattle.tmem_core.specs.Program.{Program}
use Rattle.tmem_core.specs.Verdict.{map_of, first_broken, committed, committed_of}

-- some value that was read is not the present one
abbrev pub has_changed : State → List (ℕ × ℤ) → Bool
has_changed s reads = list_any (λ (r : ℕ × ℤ). not (int_eq (map_of s r.0) r.1)) reads

-- the answer to an effect that breaks no invariant: at most 256 may wait, and a count stays below 2 ^ 64
abbrev pub sound_answer : State → ℕ → Effect → List ℤ → Result Settled Fault
sound_answer s durable e registers =
    if is_empty e then Ok (Seen s.count registers)
    else if s.count - durable == 2 ^ 8 then Err fault.Full
    else if s.count == 2 ^ 64 - 1 then Err fault.Spent
    else Ok (Committed s.count registers)

-- refused with a broken name, if there is one
abbrev pub unless_refused : Option (List ℕ) → Result Settled Fault → Result Settled Fault
unless_refused (Some name) answer = Ok (Refused name)
unless_refused None answer = answer

-- the answer to an attempt that ended normally on the present values
abbrev pub normal_answer : Program → State → ℕ → Effect → List ℤ → Result Settled Fault
normal_answer p s durable e registers = unless_refused (first_broken p s e) (sound_answer s durable e registers)

-- the answer to an attempt that ended on the present values
abbrev pub ending_answer : Program → ending.Ending → State → ℕ → Effect → List ℤ → Result Settled Fault
ending_answer p ended.Normal s durable e registers = normal_answer p s durable e registers
ending_answer p ended.Retry s durable e registers = Ok Retry
ending_answer p (ended.Abort code) s durable e registers = Ok (Aborted code)
ending_answer p (ended.Broken name) s durable e registers = Ok (Refused name)

-- the answer of a core that is shut or not, with this state, of which so many are known durable
abbrev pub settle_answer : Program → Bool → State → ℕ → Attempt → Result Settled Fault
settle_answer p shut s durable a =
    if shut then Err fault.Closed
    else if has_changed s a.reads.entries then Err fault.Conflict
    else ending_answer p a.ending s durable a.effect a.registers

-- where the answer tells the name of an invariant, that is one of these
abbrev pub TellsOneOf : List (List ℕ) → Settled → Type 0
TellsOneOf names (Refused name) = has_name names name ≡ true
TellsOneOf names _ = ⊤

-- what an attempt can be refused for
abbrev pub IsRefusal : Fault → Type 0
IsRefusal fault.Closed = Unit {0}
IsRefusal fault.Conflict = Unit {0}
IsRefusal fault.Full = Unit {0}
IsRefusal fault.Spent = Unit {0}
IsRefusal _ = ⊥

-- the effects that an answer commits: one or none
abbrev pub committed_by : Result Settled Fault → Effect → List Effect
committed_by (Ok settled) e = committed settled e
committed_by (Err f) e = []

-- a verdict as an answer, where so many are known durable: to commit takes room and a greater count
abbrev pub allowed : Settled → ℕ → Result Settled Fault
allowed (Committed number registers) durable =
    if number - durable == 2 ^ 8 then Err fault.Full
    else if number == 2 ^ 64 - 1 then Err fault.Spent
    else Ok (Committed number registers)
allowed v durable = Ok v

-- the answer that a verdict on the state gives, where these values were read
abbrev pub judged : Bool → State → ℕ → List (ℕ × ℤ) → Settled → Result Settled Fault
judged shut s durable reads v =
    if shut then Err fault.Closed
    else if has_changed s reads then Err fault.Conflict
    else allowed v durable

-- what an answer commits of an attempt is what the plan adds to the state
abbrev pub IsAdded : Program → Tx → State → Attempt → Result Settled Fault → Type 0
IsAdded p tx s a answer = IfOk answer (λ settled. committed settled a.effect ≡ committed_of p tx s)
