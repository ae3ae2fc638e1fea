-- What is told of a line whose value was not read.
use Rattle.std.proofs.Common.{◌≡◌, ℕ, ℤ, List, Some, None, Result, Ok, Err, IfErr, IsUtf8, sym, ◌∙◌}
use Rattle.std.specs.Result.{IsErrAnd}
use Rattle.serde_json.specs.Data.{Data}
use Rattle.serde_json.specs.Errors.{IsMemory}
use Rattle.serde_json.specs.Read.{read}
use Rattle.serde_json.specs.declared.error.Error.{Error}
use Rattle.tmem_requests.specs.Errors.{IsNoRequest, IsNotJson, LacksMemory}
use Rattle.tmem_requests.specs.Reasons.{IsNoJson}
use Rattle.tmem_requests.specs.Requests.{IsRequestText}
use Rattle.tmem_requests.specs.Wrong.{TellsTruthOf}
use Rattle.tmem_requests.specs.declared.refusal.RequestError.{RequestError}
use Rattle.tmem_requests.specs.declared.request.RequestBody.{RequestBody}
use Rattle.tmem_requests.proofs.Reading.{no_text, not_wanting}

-- what an error of reading becomes
abbrev pub IsMadeOf : Error → RequestError → Type 0
IsMadeOf error e = (IsMemory error → LacksMemory e) × (¬ IsMemory error → IsNoRequest e × IsNotJson e)

-- where the line is no request, it was not memory that failed
no_memory : (error : Error) (e : RequestError) → IsMadeOf error e → IsNoRequest e → ¬ IsMemory error
no_memory error e made is wanting = not_wanting e is (made.0 wanting)

module _ (line : List ℕ) (error : Error) {X : Type 0} where
  pub unread_no_json : (r : Result X RequestError) → IsErrAnd r (IsMadeOf error) → IfErr r (λ e. IsNoJson line → IsNoRequest e → IsNotJson e)
  unread_no_json (Ok x) made = tt
  unread_no_json (Err e) made = λ no_json is. (made.1 (no_memory error e made is)).1

  pub unread_no_request : (r : Result X RequestError) → IsErrAnd r (IsMadeOf error) → (¬ IsMemory error → IsUtf8 line → read line ≡ None) → IfErr r (λ e. IsNoRequest e → (id : ℤ) (ask : RequestBody) → ¬ IsRequestText id ask line)
  unread_no_request (Ok x) made none = tt
  unread_no_request (Err e) made none = λ is. no_text line (none (no_memory error e made is))

  pub unread_told : (r : Result X RequestError) → IsErrAnd r (IsMadeOf error) → (¬ IsMemory error → IsUtf8 line → read line ≡ None) → IfErr r (λ e. (value : Data) → IsNoRequest e → IsUtf8 line → read line ≡ Some value → TellsTruthOf value e)
  unread_told (Ok x) made none = tt
  unread_told (Err e) made none = λ value is utf8 reads.
      let clash : None ≡ Some value = sym (none (no_memory error e made is) utf8) ∙ reads in
      absurd cc
