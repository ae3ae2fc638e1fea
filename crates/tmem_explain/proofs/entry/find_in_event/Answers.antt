use Rattle.serde_json.specs.View.{view}
use Rattle.tmem_forms.specs.TxForms.{tagged}
use Rattle.tmem_explain.proofs.Amisses.{no_event_key}
use Rattle.tmem_explain.proofs.entry.find_in_event.Goals as goal

pub returns-in_default : goal.returns-in_default
returns-in_default c =
    let d = c.in_default in
    c.here.ensures.amiss (tagged c.args.key.now (view c.args.body.now)) (no_event_key c.args.key.now d.not-begin d.not-turn d.not-settle)
