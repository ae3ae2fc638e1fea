-- What an attempt is answered, told apart from the registers that it ended with.
use Rattle.std.specs.Prelude.{◌≡◌, ℕ, ℤ, List, Result, Ok, Err}
use Rattle.tmem_fault.specs.declared.fault.Fault.{Fault}
use Rattle.tmem_effect.specs.declared.effect.Effect.{Effect}
use Rattle.tmem_tree.specs.declared.settled.Settled.{Settled}
use Rattle.tmem_tree.specs.declared.settled.Settled.TheVariants as settled
use Rattle.tmem_tentative.specs.declared.attempt.Attempt.{Attempt}
use Rattle.tmem_core.specs.SettleAnswer.{committed_by}
use Rattle.tmem_core.specs.declared.decision.Decision.{Decision}
use Rattle.tmem_core.specs.declared.decision.Decision.TheVariants.{Committed, Seen, Retry, Aborted, Refused}

-- the whole answer: a decision with the registers of its attempt
abbrev pub settled_of : Decision → List ℤ → Settled
settled_of (Committed number) registers = settled.Committed number registers
settled_of (Seen at) registers = settled.Seen at registers
settled_of (Retry at) registers = settled.Retry
settled_of (Aborted code) registers = settled.Aborted code
settled_of (Refused name) registers = settled.Refused name

-- the same where the attempt may be refused
abbrev pub answer_of : Result Decision Fault → List ℤ → Result Settled Fault
answer_of (Ok decision) registers = Ok (settled_of decision registers)
answer_of (Err f) registers = Err f

-- where the attempt asks to be run again, so many were committed
abbrev pub RetriesAt : ℕ → Result Decision Fault → Type 0
RetriesAt count (Ok (Retry at)) = at ≡ count
RetriesAt count _ = Unit {0}

-- the effects that are committed of an attempt that is answered so: one or none
abbrev pub taken_by : Result Decision Fault → Attempt → List Effect
taken_by decision a = committed_by (answer_of decision a.registers) a.effect
