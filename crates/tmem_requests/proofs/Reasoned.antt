-- What is told of a line that cannot be asked of a store is true.
use Rattle.std.proofs.Common.{◌≡◌, inl, inr, ℕ, ℤ, List, Some, IsUtf8, sym, ◌∙◌, subst}
use Rattle.serde_json.specs.Data.{Data}
use Rattle.serde_json.specs.Read.{read}
use Rattle.tmem_requests.specs.Errors.{IsNoRequest, IsNotJson}
use Rattle.tmem_requests.specs.Reasons.{IsNoJson, IsReason, TellsReason}
use Rattle.tmem_requests.specs.Requests.{IsRequest, IsRequestText}
use Rattle.tmem_requests.specs.Wrong.{TellsTruth, TellsTruthOf, store}
use Rattle.tmem_requests.specs.declared.refusal.NoRequest as refused
use Rattle.tmem_requests.specs.declared.refusal.RequestError.{RequestError}
use Rattle.tmem_requests.specs.declared.refusal.RequestError.TheVariants.{Memory, NoRequest}
use Rattle.tmem_requests.specs.declared.request.RequestBody.{RequestBody}
use Rattle.tmem_requests.proofs.Members.{same_value}

-- of one that was not read
pub reason_of_value : (vars : ℕ) (names always : List (List ℕ)) (line : List ℕ) (e : RequestError) → ((value : Data) → IsNoRequest e → IsUtf8 line → read line ≡ Some value → TellsTruthOf value e)
    → (IsNoJson line → IsNoRequest e → IsNotJson e) → TellsReason vars names always line e
reason_of_value vars names always line (Memory e) told no_json = tt
reason_of_value vars names always line (NoRequest refusal) told no_json =
    record { told = λ value utf8 reads. inl (told value tt utf8 reads); no_json = λ none. no_json none tt }

-- of one that is a request, and cannot be made of the store
pub reason_of_misfit : (vars : ℕ) (names always : List (List ℕ)) (line : List ℕ) (id : ℤ) (asks : RequestBody) (refusal : refused.NoRequest) → IsRequestText id asks line
    → ((other : ℤ) (d : Data) → IsRequest other asks d → TellsTruth (store vars names always) d refusal) → IsReason vars names always line refusal
reason_of_misfit vars names always line id asks refusal is told = record {
  told = λ value utf8 reads. inr (told id value (subst (λ (d : Data). IsRequest id asks d) (same_value is.value value (sym is.reads ∙ reads)) is.request));
  no_json = λ none. absurd (none is.value is.utf8 is.reads);
}
