-- What holds of every content, whatever wrote it.
use Rattle.std.specs.Prelude.{◌≡◌, ℕ, List}
use Rattle.tmem_effect.specs.State.{State}
use Rattle.tmem_state.specs.declared.version.Version.{Version}
use Rattle.tmem_image.specs.Image.{HoldsImage, ChoosesCopy}

-- a copy holds one image at the most, and that of one version
abbrev pub OneImage : Type 0
OneImage = (v v' : Version) (vars copy generation generation' : ℕ) (s s' : State) (c : List ℕ) → HoldsImage v vars copy generation s c → HoldsImage v' vars copy generation' s' c → (v ≡ v') × (generation ≡ generation') × (s ≡ s')

-- one copy is chosen at the most
abbrev pub OneChoice : Type 0
OneChoice = (vars copy copy' : ℕ) (c : List ℕ) → ChoosesCopy vars copy c → ChoosesCopy vars copy' c → copy ≡ copy'
