-- Facts about what was found in a value, and about refusals that are handed on.
use Rattle.std.proofs.Common.{◌≡◌, ℕ, ℤ, List, [], map, All, Option, unwrap_or, Some, None, IsNone, Bor, ok_or, option_map, Result, Ok, Err, IfOk, IfErr, FitsSigned, w64, IsUtf8, refl, sym, ap, ◌∙◌, subst}
use Rattle.serde_json.specs.Data.{Data}
use Rattle.serde_json.specs.Find.{get}
use Rattle.serde_json.specs.Read.{read}
use Rattle.serde_json.specs.View.{view}
use Rattle.serde_json.specs.declared.value.Value.{Value}
use Rattle.tmem_forms.proofs.Laws.{passed_on}
use Rattle.tmem_forms.specs.Errors.{Refuses}
use Rattle.tmem_forms.specs.TxForms.{array_of, integer}
use Rattle.tmem_forms.specs.declared.error.FormError.{FormError}
use Rattle.tmem_forms.specs.declared.error.FormError.TheVariants.{NoForm}
use Rattle.tmem_requests.proofs.Members.{NoRequestIn, same_value}
use Rattle.tmem_requests.specs.Forms.{HasMember, IsInteger, list_at}
use Rattle.tmem_requests.specs.Errors.{IsNoRequest, LacksMemory}
use Rattle.tmem_requests.specs.Requests.{IsRequest, IsRequestText}
use Rattle.tmem_requests.specs.declared.refusal.RequestError.{RequestError}
use Rattle.tmem_requests.specs.declared.refusal.RequestError.TheVariants.{Memory, NoRequest}
use Rattle.tmem_requests.specs.declared.request.RequestBody.{RequestBody}

-- a result that is handed on
pub handed_on : {X : Type 0} (P Q : Type 0) (r : Result X FormError) → IfErr r (λ e. Refuses e P) → (P → Q) → IfErr r (λ e. Refuses e Q)
handed_on P Q (Ok x) refused more = tt
handed_on {X} P Q (Err e) refused more = passed_on {X = X} P Q (Err e) e refl refused more

-- a refusal where there is none
pub refused_for_none : {X : Type 0} (o : Option X) (r : Result X FormError) (Q : Type 0) → r ≡ ok_or o NoForm → (IsNone o → Q) → IfErr r (λ e. Refuses e Q)
refused_for_none {X} None r Q is none = subst (λ (s : Result X FormError). IfErr s (λ e. Refuses e Q)) (sym is) (none refl)
refused_for_none {X} (Some x) r Q is none = subst (λ (s : Result X FormError). IfErr s (λ e. Refuses e Q)) (sym is) tt

-- what was found at a key
pub found_at : (key : List ℕ) (d : Data) (o : Option (Bor Value)) (v : Bor Value) → option_map (λ v. view v.now) o ≡ get key d → o ≡ Some v → get key d ≡ Some (view v.now)
found_at key d o v found some = sym found ∙ ap (option_map (λ (v : Bor Value). view v.now)) some

pub none_at : (key : List ℕ) (d : Data) (o : Option (Bor Value)) → option_map (λ v. view v.now) o ≡ get key d → o ≡ None → get key d ≡ None
none_at key d o found none = sym found ∙ ap (option_map (λ (v : Bor Value). view v.now)) none

-- the list at a key
pub list_found : (key : List ℕ) (d v : Data) → get key d ≡ Some v → list_at key d ≡ v
list_found key d v found = ap (λ (o : Option Data). unwrap_or o (array_of [])) found

pub list_left_out : (key : List ℕ) (d : Data) → get key d ≡ None → list_at key d ≡ array_of []
list_left_out key d none = ap (λ (o : Option Data). unwrap_or o (array_of [])) none

-- the number at a key
pub number_at : (key : List ℕ) (d v : Data) (r : Result ℤ FormError) → get key d ≡ Some v → IfOk r (λ n. v ≡ integer n) → IfOk r (λ n. FitsSigned w64 n) → IfOk r (λ n. HasMember key (IsInteger n) d)
number_at key d v (Ok n) stands form fits = record { value = v; stands = stands; is = record { form = form; fits = fits } }
number_at key d v (Err e) stands form fits = tt

pub no_number_at : (key : List ℕ) (d v : Data) → get key d ≡ Some v → ((n : ℤ) → FitsSigned w64 n → ¬ (v ≡ integer n)) → (n : ℤ) → ¬ HasMember key (IsInteger n) d
no_number_at key d v stands none n is =
    none n is.is.fits (same_value v is.value (sym stands ∙ is.stands) ∙ is.is.form)

pub nothing_at : (key : List ℕ) (d : Data) → get key d ≡ None → (n : ℤ) → ¬ HasMember key (IsInteger n) d
nothing_at key d none n is =
    let clash : None ≡ Some is.value = sym none ∙ is.stands in
    cc

-- no item has this form, and no items
abbrev pub NoItem : {X : Type 0} → (X → Data) → (X → Type 0) → Data → Type 0
NoItem {X} form fits d = (x : X) → fits x → ¬ (d ≡ form x)

abbrev pub NoItems : {X : Type 0} → (X → Data) → (X → Type 0) → Data → Type 0
NoItems {X} form fits d = (xs : List X) → All fits xs → ¬ (d ≡ array_of (map form xs))

-- ---- lines

-- a refusal is not want of memory
pub not_wanting : (e : RequestError) → IsNoRequest e → ¬ LacksMemory e
not_wanting (Memory e) is wanting = is
not_wanting (NoRequest refusal) is wanting = wanting

-- a line that is not JSON in UTF-8
pub no_text : (line : List ℕ) → (IsUtf8 line → read line ≡ None) → (id : ℤ) (ask : RequestBody) → ¬ IsRequestText id ask line
no_text line none id ask is =
    let clash : Some is.value ≡ None = sym is.reads ∙ none is.utf8 in
    cc

-- a line whose value is no request
pub no_value : (line : List ℕ) (d : Data) → read line ≡ Some d → NoRequestIn d → (id : ℤ) (ask : RequestBody) → ¬ IsRequestText id ask line
no_value line d reads none id ask is =
    none id ask (subst (λ (v : Data). IsRequest id ask v) (same_value is.value d (sym is.reads ∙ reads)) is.request)
