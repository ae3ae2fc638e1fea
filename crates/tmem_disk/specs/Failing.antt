-- Which calls of a device in memory are armed to fail, by how many calls of their kind come before them.
use Rattle.std.specs.Prelude.{ℕ, zero, suc, Bool, true, false, Option, Some, None}
use Rattle.tmem_disk.specs.declared.disk.DeviceFault.{DeviceFault}
use Rattle.tmem_disk.specs.declared.disk.DeviceFault.TheVariants.{Read, Write, Sync}
use Rattle.tmem_disk.specs.declared.failures.ArmedFailures.{ArmedFailures}

-- no call is armed to fail
abbrev pub none_armed : ArmedFailures
none_armed = record { read = None; write = None; sync = None }

-- how many calls of a kind come before the one that is armed to fail
abbrev pub armed_for : DeviceFault → ArmedFailures → Option ℕ
armed_for Read armed = armed.read
armed_for Write armed = armed.write
armed_for Sync armed = armed.sync

-- with this in the place of what was armed for a kind
abbrev pub armed_with : DeviceFault → Option ℕ → ArmedFailures → ArmedFailures
armed_with Read before armed = record { read = before; write = armed.write; sync = armed.sync }
armed_with Write before armed = record { read = armed.read; write = before; sync = armed.sync }
armed_with Sync before armed = record { read = armed.read; write = armed.write; sync = before }

-- the next call of the kind is the one that is armed to fail
abbrev pub is_next : Option ℕ → Bool
is_next None = false
is_next (Some zero) = true
is_next (Some (suc more)) = false

-- after a call of the kind: it fails once
abbrev pub one_nearer : Option ℕ → Option ℕ
one_nearer None = None
one_nearer (Some zero) = None
one_nearer (Some (suc more)) = Some more

-- after a call of this kind, which leaves what is armed for the other kinds
abbrev pub armed_after : DeviceFault → ArmedFailures → ArmedFailures
armed_after kind armed = armed_with kind (one_nearer (armed_for kind armed)) armed
