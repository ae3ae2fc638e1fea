use Rattle.std.proofs.Common.{codes, ap, ◌∙◌, sym}
use Rattle.serde_json.specs.Data.{member}
use Rattle.serde_json.specs.View.{view}
use Rattle.tmem_script.proofs.Members.{none_left, some_left}
use Rattle.tmem_script.proofs.script.three_of.Goals as goal

pub returns-then-len-ne0-clause-refused : goal.returns-then-len-ne0-clause-refused
returns-then-len-ne0-clause-refused c = λ events slots vars is.
    some_left c.next_of-3.new.members.entries (λ none. c.if-len-ne0.true (c.len.ensures.len ∙ none))
    (cc (c.in_ok-events.ensures.ok, c.in_ok-slots.ensures.ok, c.in_ok-vars.ensures.ok))

pub returns-clause-ok : goal.returns-clause-ok
returns-clause-ok c =
    let none = none_left c.next_of-3.new.members.entries (sym c.len.ensures.len ∙ c.if-len-ne0.false) in
    c.in_ok-events.ensures.ok ∙ ap (member (codes "events") (view c.in_ok-events.events)) (c.in_ok-slots.ensures.ok
    ∙ ap (member (codes "slots") (view c.in_ok-slots.slots)) (c.in_ok-vars.ensures.ok ∙ ap (member (codes "vars") (view c.in_ok-vars.vars)) none))
