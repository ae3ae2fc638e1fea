-- A store that was cut off.
use Rattle.std.specs.Prelude.{◌≡◌, ◌<◌, ◌-◌, ◌++◌, ℕ, List, length, replicate}
use Rattle.tmem_effect.specs.State.{State}
use Rattle.tmem_parts.specs.Block.{IsBlock}
use Rattle.tmem_parts.specs.Parts.{IsStateFound}
use Rattle.tmem_record.specs.Layout.{end_at}
use Rattle.tmem_state.specs.declared.version.Version.{Version}

-- these bytes, made so long by zeros
abbrev pub lengthened : List ℕ → ℕ → List ℕ
lengthened c n = c ++ replicate (n - length c) 0

-- a store that begins with these bytes has so many, and these are fewer; made so long, they are those of a store
abbrev pub EndsTooSoon : List ℕ → ℕ → Type 0
EndsTooSoon c n =
    (version : Version) × (vars : ℕ) × (slots : ℕ) × IsBlock version vars slots c × (n ≡ end_at vars slots) × (length c < n)
    × ((state : State) × IsStateFound vars slots (lengthened c n) state)
