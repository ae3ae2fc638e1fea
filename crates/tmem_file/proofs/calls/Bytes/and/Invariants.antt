use Rattle.std.proofs.Common.{◌≡◌, ◌++◌, take}
use Rattle.tmem_file.specs.Bytes.{bytes_in}
use Rattle.tmem_file.proofs.calls.Bytes.and.Given as goal

abbrev pub invariant-loop-byte : goal.invariant-loop-byte
invariant-loop-byte l = bytes_in l.so_far ≡ bytes_in l.initial.so_far ++ take l.byte-index l.more
