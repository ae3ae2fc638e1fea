-- An entry of a table, by what its table shows of it.
use Rattle.std.proofs.Common.{◌≡◌, ℕ, ℤ, ◌<◌, List, [], map, length, get_or, Some, Vec, Global, sym, ap, ◌∙◌, subst, arith}
use Rattle.std.specs.Prelude.{slice_get, slice_index_or, vec_len}
use Rattle.std.proofs.lemmas.List.{length-map, get_or-map}
use Rattle.tmem_invariants.proofs.Laws.{slice_get-map_read}

pub within_entries : {E X : Type 0} (es : List E) (f : E → X) (i : ℕ) → i < length (map f es) → i < length es
within_entries es f i below = subst (λ (n : ℕ). i < n) (length-map es f) below

pub within_vec : {E X : Type 0} (es : Vec E Global) (f : E → X) (i : ℕ) → i < length (map f es.items) → i < vec_len es
within_vec es f i below = omega (arith, within_entries es.items f i below, es.ok.0)

-- what is shown of it
pub shown_there : {E X Y : Type 0} (es : List E) (f : E → X) (h : E → Y) (i : ℕ) (e : E) → i < length (map f es) → e ≡ get_or es i e → slice_get (map h es) i ≡ Some (h e)
shown_there es f h i e below is = slice_get-map_read es h i e (within_entries es f i below) is

pub same_shown : {E X : Type 0} (es : List E) (f : E → X) (i : ℕ) (e : E) (x : X) → i < length (map f es) → e ≡ get_or es i e → slice_get (map f es) i ≡ Some x → f (get_or es i e) ≡ x
same_shown es f i e x below is at =
    let both : Some (f e) ≡ Some x = sym (shown_there es f f i e below is) ∙ at in
    let same : f e ≡ x = cc in
    ap f (sym is) ∙ same

-- values as many as its footprint
pub as_many : {E X : Type 0} (es : List E) (f : E → X) (footprint : E → List ℕ) (i : ℕ) (e : E) (values : List ℤ) → i < length (map f es) → e ≡ get_or es i e → length values ≡ length (slice_index_or (map footprint es) i []) → length values ≡ length (footprint e)
as_many es f footprint i e values below is given = given ∙ ap length (get_or-map footprint es i e [] (within_entries es f i below) ∙ ap footprint (sym is))
