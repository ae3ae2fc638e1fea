use Rattle.serde_json.specs.View.{view}
use Rattle.tmem_forms.specs.TxForms.{tagged}
use Rattle.tmem_requests.specs.Wrong.{part}
use Rattle.tmem_requests.proofs.Wrongs.{no_tx_key}
use Rattle.tmem_requests.proofs.explain.tx.find_in_leaf.Goals as goal

pub returns-in_default : goal.returns-in_default
returns-in_default c =
    let d = c.in_default in
    c.here.ensures part (tagged c.args.key.now (view c.args.body.now))
    (no_tx_key c.args.key.now c.requires.no_seq c.requires.no_when c.requires.no_or_else d.not-put d.not-read d.not-write d.not-step d.not-abort d.not-check d.not-retire)
