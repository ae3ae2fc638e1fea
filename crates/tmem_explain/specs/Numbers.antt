-- What is told of numbers of variables and log slots that do not fit.
use Rattle.std.specs.Prelude.{ℕ, ◌&&◌, Bool, true, false, if◌then◌else◌, nat_eq, nat_lt, Option, Some, None}
use Rattle.tmem_record.specs.Layout.{end_at}
use Rattle.tmem_explain.specs.declared.numbers.NumbersHelp.{NumbersHelp}
use Rattle.tmem_explain.specs.declared.numbers.NumbersHelp.TheVariants as numbers

-- how many bytes there are, where a store of these numbers has more
abbrev few_bytes : ℕ → ℕ → ℕ → Option NumbersHelp
few_bytes vars slots has = if nat_lt has (end_at vars slots) then Some (numbers.Short vars slots has (end_at vars slots)) else None

-- Of a store with block 0: its numbers, where they are others.
abbrev pub store_numbers : ℕ → ℕ → Option (ℕ × ℕ) → ℕ → Option NumbersHelp
store_numbers vars slots None has = few_bytes vars slots has
store_numbers vars slots (Some had) has =
    if nat_eq had.0 vars && nat_eq had.1 slots then few_bytes vars slots has else Some (numbers.Other vars slots had.0 had.1)

-- where a new one is made
abbrev room_of : Bool → ℕ → ℕ → NumbersHelp
room_of true has wants = numbers.NoRoom has wants
room_of false has wants = numbers.NotBlank has wants

abbrev pub new_numbers : ℕ → ℕ → Bool → ℕ → Option NumbersHelp
new_numbers vars slots blank has = if nat_lt has (end_at vars slots) then Some (room_of blank has (end_at vars slots)) else None
