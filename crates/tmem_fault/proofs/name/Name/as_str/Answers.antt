use Rattle.std.proofs.Common.{rules}
use Rattle.std.proofs.lemmas.Str.{IsUtf8-from_ascii}
use Rattle.tmem_fault.proofs.AsStr.{letters-ascii}
use Rattle.tmem_fault.proofs.name.Name.as_str.Goals as goal

pub unwrap-requires : goal.unwrap-requires
unwrap-requires c =
    let is_utf8 = IsUtf8-from_ascii c.args.self.now (letters-ascii c.args.self.now c.as_bytes.ensures.is_name.letters) in search rules
