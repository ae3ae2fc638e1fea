-- The line that is printed for a reply.
use Rattle.std.specs.Prelude.{ℕ, ℤ, true, false, List, [], ◌∷◌, ◌++◌, flat_map, codes}
use Rattle.std.specs.Fmt.{decimal, signed_decimal}
use Rattle.tmem_fault.specs.Fault.{text_of}
use Rattle.tmem_tree.specs.declared.settled.Settled.{Settled}
use Rattle.tmem_tree.specs.declared.settled.Settled.TheVariants.{Committed, Seen, Retry, Aborted, Refused}
use Rattle.tmem_event.specs.declared.event.Reply.{Reply}
use Rattle.tmem_event.specs.declared.event.Reply.TheVariants as reply

-- these numbers, a comma between any two
abbrev pub numbers_joined : List ℤ → List ℕ
numbers_joined [] = []
numbers_joined (n ∷ ns) = signed_decimal n ++ flat_map (λ m. codes "," ++ signed_decimal m) ns

-- the line of what a transaction was answered
abbrev pub settled_line : Settled → List ℕ
settled_line (Committed number registers) = codes "committed " ++ decimal number
settled_line (Seen at registers) = codes "seen " ++ decimal at ++ codes " " ++ numbers_joined registers
settled_line Retry = codes "retry"
settled_line (Aborted code) = codes "aborted " ++ decimal code
settled_line (Refused name) = codes "refused " ++ name

-- the line of a reply, without its newline
abbrev pub line_of : Reply → List ℕ
line_of reply.Begun = codes "begun"
line_of (reply.Read var value) = codes "read " ++ decimal var ++ codes " " ++ signed_decimal value
line_of (reply.Probed name true) = codes "probe " ++ name ++ codes " yes"
line_of (reply.Probed name false) = codes "probe " ++ name ++ codes " no"
line_of reply.Ended = codes "ended"
line_of reply.Idle = codes "idle"
line_of (reply.Settled settled) = settled_line settled
line_of (reply.Durable number) = codes "durable " ++ decimal number
line_of reply.Checkpointed = codes "checkpointed"
line_of (reply.Looked number) = codes "look " ++ decimal number
line_of (reply.Opened count) = codes "opened " ++ decimal count
line_of (reply.Fault fault) = text_of fault
