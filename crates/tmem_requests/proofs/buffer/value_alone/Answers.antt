use Rattle.std.proofs.Common.{◌≡◌, ℕ, List, ◌∷◌, string_bytes, sym, ap, ◌∙◌, rules}
use Rattle.json.specs.Reads.{token_of}
use Rattle.json.specs.Token.{Token}
use Rattle.tmem_requests.proofs.Spelled.{boolean_spelled, null_spelled, number_spelled, string_spelled}
use Rattle.tmem_requests.proofs.buffer.value_alone.Goals as goal

pub returns-in_ok-ok-in-String : goal.returns-in_ok-ok-in-String
returns-in_ok-ok-in-String c = λ depth old new first.
    let s = c.in_ok-ok-in-String.field-0 in
    let copied : string_bytes s ≡ c.in-String.text.now = search rules in
    string_spelled depth old new s
    (first ∙ ap (λ k. token_of k ∷ new) c.in-String.is ∙ ap (λ (bytes : List ℕ). Token.string bytes ∷ new) (sym copied))

pub returns-in_ok-integer_of-in-Number : goal.returns-in_ok-integer_of-in-Number
returns-in_ok-integer_of-in-Number c = λ depth old new first.
    number_spelled depth old new c.in_ok-integer_of-in-Number.field-0 c.in-Number.text.now (first ∙ ap (λ k. token_of k ∷ new) c.in-Number.is)
    c.in_ok-integer_of-in-Number.ensures

pub returns-in-Bool : goal.returns-in-Bool
returns-in-Bool c = λ depth old new first.
    boolean_spelled depth old new c.in-Bool.b (first ∙ ap (λ k. token_of k ∷ new) c.in-Bool.is)

pub returns-in-Null : goal.returns-in-Null
returns-in-Null c = λ depth old new first.
    null_spelled depth old new (first ∙ ap (λ k. token_of k ∷ new) c.in-Null.is)
