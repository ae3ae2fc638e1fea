use Rattle.tmem_record.proofs.SpellingLaws.{one_spelling}
use Rattle.tmem_record.proofs.codec.one_spelling.Goals as goal

pub returns : goal.returns
returns c = one_spelling
