-- The numbers of the causes, and what is printed for a refusal.
use Rattle.std.specs.Prelude.{ℕ, List, ◌++◌, codes}
use Rattle.std.specs.Fmt.{decimal}
use Rattle.tmem_fault.specs.declared.fault.Cause.{Cause}
use Rattle.tmem_fault.specs.declared.fault.Cause.TheVariants.{TooDeep, TooManyNodes, TooManyWrites, TooManyChecks, BadRegister, BadVariable, BadStep, BadArguments, UnknownName, TooManyRetires}
use Rattle.tmem_fault.specs.declared.fault.Fault.{Fault}
use Rattle.tmem_fault.specs.declared.fault.Fault.TheVariants as fault

-- the number of a cause, by which several are ordered
abbrev pub cause_number : Cause → ℕ
cause_number TooDeep = 1
cause_number TooManyNodes = 2
cause_number TooManyWrites = 3
cause_number TooManyChecks = 4
cause_number BadRegister = 5
cause_number BadVariable = 6
cause_number BadStep = 7
cause_number BadArguments = 8
cause_number UnknownName = 9
cause_number TooManyRetires = 10

-- what is printed for a refusal: its number, its word, and what it names
abbrev pub text_of : Fault → List ℕ
text_of fault.Memory = codes "fault 1 memory"
text_of fault.Device = codes "fault 2 device"
text_of fault.Closed = codes "fault 3 closed"
text_of fault.Unknown = codes "fault 4 unknown"
text_of fault.Full = codes "fault 5 full"
text_of fault.LogFull = codes "fault 6 logfull"
text_of fault.Conflict = codes "fault 7 conflict"
text_of fault.NotFormatted = codes "fault 8 notformatted"
text_of fault.Damaged = codes "fault 9 damaged"
text_of (fault.Missing name) = codes "fault 10 missing " ++ name
text_of (fault.Broken name) = codes "fault 11 broken " ++ name
text_of (fault.BadPlan cause) = codes "fault 12 badplan " ++ decimal (cause_number cause)
text_of fault.BadName = codes "fault 13 badname"
text_of fault.BadFootprint = codes "fault 14 badfootprint"
text_of fault.Spent = codes "fault 15 spent"
text_of fault.NoSeat = codes "fault 16 noseat"
text_of fault.Geometry = codes "fault 17 geometry"
