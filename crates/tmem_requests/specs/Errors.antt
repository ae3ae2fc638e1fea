-- Why a line was not read.
use Rattle.std.specs.Prelude.{◌≡◌, ⊤}
use Rattle.tmem_requests.specs.declared.refusal.RequestError.{RequestError}
use Rattle.tmem_requests.specs.declared.refusal.RequestError.TheVariants.{Memory, NoRequest}
use Rattle.tmem_requests.specs.declared.why.RequestFlaw.TheVariants.{NotJson}

-- memory was refused
abbrev pub LacksMemory : RequestError → Type 0
LacksMemory (Memory e) = ⊤
LacksMemory (NoRequest refusal) = ⊥

-- the line is no request
abbrev pub IsNoRequest : RequestError → Type 0
IsNoRequest (Memory e) = ⊥
IsNoRequest (NoRequest refusal) = ⊤

-- the line is not JSON
abbrev pub IsNotJson : RequestError → Type 0
IsNotJson (Memory e) = ⊥
IsNotJson (NoRequest refusal) = refusal.why ≡ NotJson
