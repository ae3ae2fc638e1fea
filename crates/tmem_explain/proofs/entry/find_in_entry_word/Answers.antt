use Rattle.serde_json.specs.Data.{string}
use Rattle.tmem_explain.proofs.Amisses.{no_entry_word}
use Rattle.tmem_explain.proofs.entry.find_in_entry_word.Goals as goal

pub returns-in_default : goal.returns-in_default
returns-in_default c =
    let d = c.in_default in
    c.here.ensures.amiss (string c.args.word.now) (no_entry_word c.args.word.now d.not-flush d.not-checkpoint d.not-look d.not-reopen d.not-show)
