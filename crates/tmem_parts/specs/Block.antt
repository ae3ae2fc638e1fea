-- Block 0.
use Rattle.std.specs.Prelude.{◌≡◌, ◌≢◌, ◌+◌, ◌-◌, ◌*◌, ◌^◌, ◌<◌, ◌≤◌, ℕ, List, length, take, drop, codes, slice_index}
use Rattle.tmem_gate.specs.Gate.{IsOpenAt, IsClosed}
use Rattle.tmem_record.specs.Layout.{IsLayout}
use Rattle.tmem_record.specs.StandsAt.{StandsAt, zero_bytes}
use Rattle.tmem_state.specs.Versions.{version_number}
use Rattle.tmem_state.specs.declared.version.Version.{Version}
use Rattle.tmem_parts.specs.declared.wrong.FormatFlaw.{FormatFlaw}
use Rattle.tmem_parts.specs.declared.wrong.FormatFlaw.TheVariants as why

-- the number of two bytes from an offset on, the lesser one first
abbrev pub short_in : List ℕ → ℕ → ℕ
short_in c at = slice_index c at + 2 ^ 8 * slice_index c (at + 1)

-- block 0 is open, and the letters and the number of this version stand there
pub record IsHeadedBy (version : Version) (c : List ℕ) : Type 0 where
  pub long : 512 ≤ length c
  pub gate : IsOpenAt 0 c
  pub letters : take 4 (drop 1 c) ≡ codes "TMEM"
  pub number : slice_index c 5 ≡ version_number version

-- block 0 is open, and each of its fields stands at its offset: the letters, the version, the numbers of variables and log slots, and
-- zeros
pub record IsBlock (version : Version) (vars slots : ℕ) (c : List ℕ) : Type 0 where
  pub headed : IsHeadedBy version c
  pub variables : short_in c 6 ≡ vars
  pub log_slots : short_in c 8 ≡ slots
  pub zeros : StandsAt 10 (zero_bytes 502) c
  pub layout : IsLayout vars slots

-- block 0 is none of a store
abbrev pub IsNoBlock : List ℕ → Type 0
IsNoBlock c = (version : Version) (vars slots : ℕ) → IsBlock version vars slots c → ⊥

-- This is wrong with block 0, at that offset: the bytes end there; the gate is closed; a letter is another one; no version has that
-- number; the number of variables, or that of log slots, is out of its limits; or a byte behind them is not 0.
abbrev pub IsBlockWrong : FormatFlaw → ℕ → List ℕ → Type 0
IsBlockWrong why.Ends at c = (length c < 512) × (at ≡ length c)
IsBlockWrong why.BlockClosed at c = (at ≡ 0) × IsClosed 0 c
IsBlockWrong why.Letters at c = (1 ≤ at) × (at ≤ 4) × (slice_index c at ≢ slice_index (codes "TMEM") (at - 1))
IsBlockWrong why.BlockVersion at c = (at ≡ 5) × ((version : Version) → slice_index c 5 ≢ version_number version)
IsBlockWrong why.Vars at c = (at ≡ 6) × ((slots : ℕ) → ¬ IsLayout (short_in c 6) slots)
IsBlockWrong why.Slots at c = (at ≡ 8) × ((vars : ℕ) → ¬ IsLayout vars (short_in c 8))
IsBlockWrong why.NotZero at c = (10 ≤ at) × (at < 512) × (slice_index c at ≢ 0)
IsBlockWrong _ at c = ⊥
