use Rattle.tmem_explain.proofs.Passed.{no_value}
use Rattle.tmem_explain.proofs.script.note_all.Goals as goal

pub returns-in_err-note_keys : goal.returns-in_err-note_keys
returns-in_err-note_keys c = λ old. no_value _ c.from_residual.result c.in_err-note_keys.field-0.0 c.from_residual.ensures.1

pub returns-in_err-note : goal.returns-in_err-note
returns-in_err-note c = λ old. no_value _ c.from_residual-in_err-note.result c.in_err-note.field-0.0 c.from_residual-in_err-note.ensures.1

pub returns-in_err-note-2 : goal.returns-in_err-note-2
returns-in_err-note-2 c = λ old. no_value _ c.from_residual-in_err-note-2.result c.in_err-note-2.field-0.0 c.from_residual-in_err-note-2.ensures.1
