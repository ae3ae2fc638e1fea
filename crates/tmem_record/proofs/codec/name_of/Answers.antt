use Rattle.std.proofs.Common.{◌≡◌, ◌∙◌, ◌++◌, ℕ, List, sym, subst, arith}
use Rattle.std.proofs.lemmas.Bool.{false≢true}
use Rattle.tmem_fault.specs.Name.{IsName}
use Rattle.tmem_record.specs.Spelling.{name_bytes}
use Rattle.tmem_record.proofs.CodecReads.{or_none, nothing_of_name, no_room_for_name, no_name_there, name_is_text, name_front}
use Rattle.tmem_record.proofs.codec.name_of.Goals as goal

pub returns-in_err-len-clause-none : goal.returns-in_err-len-clause-none
returns-in_err-len-clause-none c = or_none _ (nothing_of_name c.args.bytes.now c.in_err-len.ensures.none)

pub returns-then-behind-len-clause-none : goal.returns-then-behind-len-clause-none
returns-then-behind-len-clause-none c = no_room_for_name c.args.bytes.now c.in_ok-len.behind.now c.in_ok-len.len c.in_ok-len.ensures.found (omega arith)

pub returns-in_default-clause-none : goal.returns-in_default-clause-none
returns-in_default-clause-none c =
    no_name_there c.args.bytes.now c.in_ok-len.behind.now c.split_at.result.0.now c.in_ok-len.len c.in_ok-len.ensures.found c.split_at.ensures.front (λ is. c.in_default.ensures.cases.0 (name_is_text c.split_at.result.0.now is))

pub returns-in_default-new-clause-none : goal.returns-in_default-new-clause-none
returns-in_default-new-clause-none c =
    no_name_there c.args.bytes.now c.in_ok-len.behind.now c.split_at.result.0.now c.in_ok-len.len c.in_ok-len.ensures.found c.split_at.ensures.front (λ is. false≢true (c.in_default-new.ensures.valid.1 (subst IsName (sym c.in-Ok.ensures.cases.0) is)))

pub returns-clause-found : goal.returns-clause-found
returns-clause-found c =
    let spelled = name_front c.args.bytes.now c.in_ok-len.behind.now c.split_at.result.0.now c.split_at.result.1.now c.in_ok-len.len c.in_ok-len.ensures.found (omega arith) c.split_at.ensures.front c.split_at.ensures.back in
    subst (λ (name : List ℕ). c.args.bytes.now ≡ name_bytes name ++ c.split_at.result.1.now) (sym (c.in-Ok-new.ensures.ok ∙ c.in-Ok.ensures.cases.0)) spelled
