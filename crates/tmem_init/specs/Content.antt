-- The content of a new store.
use Rattle.std.specs.Prelude.{◌≡◌, ℕ, pos, List, length, true, All}
use Rattle.tmem_disk.specs.Disk.{DeviceView, IsSynced}
use Rattle.tmem_record.specs.Layout.{end_at}
use Rattle.tmem_effect.specs.Names.{has_name}
use Rattle.tmem_effect.specs.State.{State}
use Rattle.tmem_parts.specs.Parts.{IsStateFound}

-- every variable is 0, and these names are registered and no others
pub record IsNewState (vars : ℕ) (names : List (List ℕ)) (s : State) : Type 0 where
  pub many : length s.values ≡ vars
  pub zeros : All (λ value. value ≡ pos 0) s.values
  pub registered : All (λ name. has_name s.names name ≡ true) names
  pub no_others : All (λ name. has_name names name ≡ true) s.names

-- bytes of a store's length, and an opening of them finds such a state
pub record IsContent (vars slots : ℕ) (names : List (List ℕ)) (c : List ℕ) : Type 0 where
  pub long : length c ≡ end_at vars slots
  pub state : State
  pub found : IsStateFound vars slots c state
  pub new : IsNewState vars names state

-- a device that holds such a content, and nothing is left to sync
pub record IsNewStore (vars slots : ℕ) (names : List (List ℕ)) (d : DeviceView) : Type 0 where
  pub content : d.keeps_model → IsContent vars slots names d.seen
  pub synced : IsSynced d
