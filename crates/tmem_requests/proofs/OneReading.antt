-- A line has one reading: each request that it is has the same id, and can be made of the same stores.
use Rattle.std.proofs.Common.{◌≡◌, ℕ, ℤ, List, map, codes, bytes_eq, sym, ap, ◌∙◌, subst, arith}
use Rattle.std.specs.Prelude.{MatchBool}
use Rattle.std.specs.Map.{keys_of}
use Rattle.serde_json.specs.Data.{Data}
use Rattle.serde_json.specs.Find.{get}
use Rattle.tmem_effect.specs.Names.{AreApart}
use Rattle.tmem_forms.specs.TxForms.{array_of, natural}
use Rattle.tmem_requests.specs.Fits.{AreNamed, AreThere, FitsStore, ProposalFits}
use Rattle.tmem_requests.specs.Forms.{pair_form}
use Rattle.tmem_requests.specs.Requests.{key_of, IsBody, IsRequest, IsRequestText, IsSettle}
use Rattle.tmem_requests.specs.declared.proposal.Proposal.{Proposal}
use Rattle.tmem_requests.specs.declared.request.RequestBody.{RequestBody}
use Rattle.tmem_requests.specs.declared.request.RequestBody.TheVariants as ask
use Rattle.tmem_requests.proofs.Members.{asks_by, not_aside, same_value}
use Rattle.tmem_requests.proofs.Retired.{retired, retired_tx}
use Rattle.tmem_requests.proofs.Same.{same_integer, same_naturals, same_pairs, same_strings}

-- each request that a line is, its value is
same_line : (line : List ℕ) (id other : ℤ) (asks others : RequestBody) (one : IsRequestText id asks line) → IsRequestText other others line → IsRequest other others one.value
same_line line id other asks others one two =
    subst (λ (e : Data). IsRequest other others e) (same_value two.value one.value (sym two.reads ∙ one.reads)) two.request

-- and has the same id
pub one_id : (line : List ℕ) (id other : ℤ) (asks others : RequestBody) → IsRequestText id asks line → IsRequestText other others line → other ≡ id
one_id line id other asks others one two =
    let is = same_line line id other asks others one two in
    let mine = one.request.numbered in
    let there : is.numbered.value ≡ mine.value = same_value is.numbered.value mine.value (sym is.numbered.stands ∙ mine.stands) in
    same_integer other id (sym is.numbered.is.form ∙ (there ∙ mine.is.form))

-- ---- what a store asks of what stands at the key

module _ (vars : ℕ) (names always : List (List ℕ)) where
  abbrev FitsAt : List ℕ → Data → Type 0
  FitsAt key v =
      MatchBool (bytes_eq key (codes "get")) ((all : List ℕ) → v ≡ array_of (map natural all) → AreThere vars all)
      (MatchBool (bytes_eq key (codes "changed")) ((all : List (ℕ × ℤ)) → v ≡ array_of (map pair_form all) → AreThere vars (keys_of all))
      (MatchBool (bytes_eq key (codes "settle")) ((proposal : Proposal) → IsSettle proposal v → ProposalFits vars names always proposal)
      (retired always v ≡ 0)))

  fits_proposal : (p q : Proposal) (v : Data) → IsSettle p v → IsSettle q v → ProposalFits vars names always p → ProposalFits vars names always q
  fits_proposal p q v one two fits =
      let retires = same_strings _ p.retires.items q.retires.items one.retires.form two.retires.form in
      record {
        reads = subst (λ (l : List (ℕ × ℤ)). AreThere vars (keys_of l)) (same_pairs _ p.reads.items q.reads.items one.reads.form two.reads.form) fits.reads;
        writes = subst (λ (l : List (ℕ × ℤ)). AreThere vars (keys_of l)) (same_pairs _ p.writes.items q.writes.items one.writes.form two.writes.form) fits.writes;
        checks = subst (λ (l : List (List ℕ)). AreNamed names l) (same_strings _ p.checks.items q.checks.items one.checks.form two.checks.form) fits.checks;
        retires = subst (λ (l : List (List ℕ)). AreNamed names l) retires fits.retires;
        keeps = subst (λ (l : List (List ℕ)). AreApart l always) retires fits.keeps;
      }

  fits_at : (asks : RequestBody) (v : Data) → IsBody asks v → FitsStore vars names always asks → FitsAt (key_of asks) v
  fits_at (ask.Do tx) v is fits = ap (retired always) is.form ∙ (sym (retired_tx always tx) ∙ fits)
  fits_at (ask.Try tx) v is fits = ap (retired always) is.form ∙ (sym (retired_tx always tx) ∙ fits)
  fits_at (ask.Get all) v is fits = λ others form. subst (AreThere vars) (same_naturals v all.items others is.form form) fits
  fits_at (ask.Settle proposal) v is fits = λ other same. fits_proposal proposal other v is same fits
  fits_at (ask.Changed reads) v is fits = λ others form. subst (λ (l : List (ℕ × ℤ)). AreThere vars (keys_of l)) (same_pairs v reads.items others is.form form) fits
  fits_at (ask.Cancel id) v is fits = ap (retired always) is.form
  fits_at (ask.Keep word tx) v is fits = omega (arith, ap (retired always) is.form, retired_tx always tx, fits)
  fits_at (ask.Run word numbers) v is fits = ap (retired always) is.form
  fits_at ask.Look v is fits = ap (retired always) is
  fits_at ask.State v is fits = ap (retired always) is
  fits_at ask.Checkpoint v is fits = ap (retired always) is
  fits_at ask.Stats v is fits = ap (retired always) is

  fits_from : (asks : RequestBody) (v : Data) → IsBody asks v → FitsAt (key_of asks) v → FitsStore vars names always asks
  fits_from (ask.Do tx) v is fits = retired_tx always tx ∙ (sym (ap (retired always) is.form) ∙ fits)
  fits_from (ask.Try tx) v is fits = retired_tx always tx ∙ (sym (ap (retired always) is.form) ∙ fits)
  fits_from (ask.Get all) v is fits = fits all.items is.form
  fits_from (ask.Settle proposal) v is fits = fits proposal is
  fits_from (ask.Changed reads) v is fits = fits reads.items is.form
  fits_from (ask.Cancel id) v is fits = tt
  fits_from (ask.Keep word tx) v is fits = omega (arith, ap (retired always) is.form, retired_tx always tx, fits)
  fits_from (ask.Run word numbers) v is fits = tt
  fits_from ask.Look v is fits = tt
  fits_from ask.State v is fits = tt
  fits_from ask.Checkpoint v is fits = tt
  fits_from ask.Stats v is fits = tt

  -- where one request that a line is can be made of a store, each that it is can be
  pub fits_too : (line : List ℕ) (id other : ℤ) (asks others : RequestBody) → IsRequestText id asks line → IsRequestText other others line → FitsStore vars names always others → FitsStore vars names always asks
  fits_too line id other asks others one two fits =
      let d = one.value in
      let v = one.request.asked.value in
      let is = same_line line id other asks others one two in
      let key : key_of others ≡ key_of asks = asks_by d v (key_of asks) other others one.request.asked.stands (not_aside asks) is in
      let there : is.asked.value ≡ v = same_value is.asked.value v (sym is.asked.stands ∙ (ap (λ (k : List ℕ). get k d) key ∙ one.request.asked.stands)) in
      fits_from asks v one.request.asked.is (subst (λ (k : List ℕ). FitsAt k v) key (subst (FitsAt (key_of others)) there (fits_at others is.asked.value is.asked.is fits)))
