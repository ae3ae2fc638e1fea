-- That what is told is durable.
use Rattle.std.specs.Prelude.{ℕ, ◌≤◌, Ok}
use Rattle.tmem_seats.specs.Settling.{IsNumberedWithin}
use Rattle.tmem_answers.specs.declared.answer.Answer.{Answer}
use Rattle.tmem_answers.specs.declared.answer.Answer.TheVariants as answer
use Rattle.tmem_desk.specs.declared.told.Told.{Told}
use Rattle.tmem_desk.specs.declared.told.Told.TheVariants as told

-- each transaction that an answer names, and each that it was made on, is among the first so many
abbrev pub IsAmong : ℕ → Answer → Type 0
IsAmong n (answer.Settled settled) = IsNumberedWithin (Ok settled) n
IsAmong n (answer.Values number values) = number ≤ n
IsAmong n (answer.State number names values) = number ≤ n
IsAmong n (answer.Durable number) = number ≤ n
IsAmong n given = Unit {0}

abbrev pub TellsAmong : ℕ → Told → Type 0
TellsAmong n (told.Answer a) = IsAmong n a.answer
TellsAmong n (told.NoRequest refusal) = Unit {0}
