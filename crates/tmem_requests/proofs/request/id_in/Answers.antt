use Rattle.std.proofs.Common.{◌≡◌, ℤ, FitsSigned, w64, codes}
use Rattle.serde_json.specs.View.{view}
use Rattle.tmem_forms.specs.TxForms.{integer}
use Rattle.tmem_requests.specs.Forms.{HasMember, IsInteger}
use Rattle.tmem_requests.proofs.Reading.{found_at, none_at, handed_on, number_at, no_number_at, nothing_at}
use Rattle.tmem_requests.proofs.request.id_in.Goals as goal

pub returns-in-Some-clause-ok : goal.returns-in-Some-clause-ok
returns-in-Some-clause-ok c =
    let d = view c.args.value.now in
    let v = view c.in-Some.number.now in
    number_at (codes "id") d v c.integer_of.result (found_at (codes "id") d c.get.result c.in-Some.number c.get.ensures c.in-Some.is) c.integer_of.ensures.ok c.integer_of.ensures.in_range

pub returns-in-Some-clause-refused : goal.returns-in-Some-clause-refused
returns-in-Some-clause-refused c =
    let d = view c.args.value.now in
    let v = view c.in-Some.number.now in
    handed_on ((n : ℤ) → FitsSigned w64 n → ¬ (v ≡ integer n)) ((n : ℤ) → ¬ HasMember (codes "id") (IsInteger n) d) c.integer_of.result c.integer_of.ensures.refused
    (no_number_at (codes "id") d v (found_at (codes "id") d c.get.result c.in-Some.number c.get.ensures c.in-Some.is))

pub returns-in-None-clause-refused : goal.returns-in-None-clause-refused
returns-in-None-clause-refused c =
    nothing_at (codes "id") (view c.args.value.now) (none_at (codes "id") (view c.args.value.now) c.get.result c.get.ensures c.in-None.is)
