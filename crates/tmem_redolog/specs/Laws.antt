-- What holds of every content, whatever wrote it.
use Rattle.std.specs.Prelude.{◌≡◌, ◌≤◌, ◌^◌, ℕ, List}
use Rattle.tmem_effect.specs.State.{State}
use Rattle.tmem_effect.specs.declared.effect.Effect.{Effect}
use Rattle.tmem_state.specs.declared.version.Version.{Version}
use Rattle.tmem_redolog.specs.Log.{HoldsLog}

-- a content holds one log at the most over an image of one version and generation
abbrev pub OneLog : Type 0
OneLog = (v : Version) (vars slots generation : ℕ) (image : State) (batches others : List (List Effect)) (c : List ℕ) → vars ≤ 2 ^ 16 → HoldsLog v vars slots generation image batches c → HoldsLog v vars slots generation image others c → batches ≡ others
