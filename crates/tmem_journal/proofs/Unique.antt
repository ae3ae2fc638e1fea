-- A content represents one state at most, at one position.
use Rattle.std.proofs.Common.{◌≡◌, ◌≤◌, ◌^◌, ℕ, List, length, sym, ◌∙◌, ap, subst}
use Rattle.tmem_record.specs.Layout.{image_at}
use Rattle.tmem_record.specs.Stale.{IsClosedOrStale}
use Rattle.tmem_effect.specs.State.{State}
use Rattle.tmem_effect.specs.declared.effect.Effect.{Effect}
use Rattle.tmem_state.specs.declared.version.Version.{Version}
use Rattle.tmem_image.specs.Image.{HoldsImage, IsChosen, ChoosesCopy, other_copy}
use Rattle.tmem_image.proofs.Laws.{front_of_image, one_choice, one_image}
use Rattle.tmem_redolog.specs.Log.{HoldsLog, replayed}
use Rattle.tmem_redolog.proofs.Laws.{one_log}
use Rattle.tmem_journal.specs.Contents.{Position, Holds, HoldsState}

-- an image in one copy is chosen where the other copy is stale for it
pub chosen_with : (version : Version) (vars copy generation : ℕ) (image : State) (c : List ℕ) → copy ≤ 1 → HoldsImage version vars copy generation image c → IsClosedOrStale generation (image_at vars (other_copy copy)) c → IsChosen vars copy generation c
chosen_with version vars copy generation image c one holds other =
    record { one = one; fits = holds.number.fits; cell = front_of_image version vars generation (image_at vars copy) image c holds.cell; other = other }

-- so a content chooses the copy that it holds its image in
pub chosen_of : {version : Version} {vars slots copy generation : ℕ} {image : State} {batches : List (List Effect)} {c : List ℕ} → Holds version vars slots copy generation image batches c → ChoosesCopy vars copy c
chosen_of {version = version} {vars = vars} {copy = copy} {generation = generation} {image = image} {c = c} holds = (generation, chosen_with version vars copy generation image c holds.one holds.chosen holds.other)

-- positions are one where their parts are
pub same_position : (p q : Position) → p.version ≡ q.version → p.copy ≡ q.copy → p.generation ≡ q.generation → p.used ≡ q.used → p ≡ q
same_position p q version copy generation used =
    ap (λ (v : Version). made v p.copy p.generation p.used) version ∙ ap (λ (k : ℕ). made q.version k p.generation p.used) copy ∙ ap (λ (g : ℕ). made q.version q.copy g p.used) generation ∙ ap (λ (n : ℕ). made q.version q.copy q.generation n) used
  where
    made : Version → ℕ → ℕ → ℕ → Position
    made v k g n = record { version = v; copy = k; generation = g; used = n }

module _ (vars slots : ℕ) (few : vars ≤ 2 ^ 16) (c : List ℕ) where
  -- one copy is chosen, it holds one image, and over that there is one log
  pub one_state_at_most : (p q : Position) (s t : State) → HoldsState vars slots p s c → HoldsState vars slots q t c → (p ≡ q) × (s ≡ t)
  one_state_at_most p q s t one other =
      let copy : p.copy ≡ q.copy = one_choice vars p.copy q.copy c (chosen_of one.holds) (chosen_of other.holds) in
      let chosen : HoldsImage p.version vars q.copy p.generation one.image c = subst (λ (k : ℕ). HoldsImage p.version vars k p.generation one.image c) copy one.holds.chosen in
      let image = one_image p.version q.version vars q.copy p.generation q.generation one.image other.image c chosen other.holds.chosen in
      let log : HoldsLog q.version vars slots q.generation one.image one.batches c =
      subst (λ (v : Version). HoldsLog v vars slots q.generation one.image one.batches c) image.0 (subst (λ (g : ℕ). HoldsLog p.version vars slots g one.image one.batches c) image.1 one.holds.log) in
      let same = one_log q.version vars slots q.generation other.image one.batches other.batches c few (subst (λ (i : State). HoldsLog q.version vars slots q.generation i one.batches c) image.2 log) other.holds.log in
      let used : p.used ≡ q.used = sym one.is_used ∙ ap (λ (bs : List (List Effect)). length bs) same ∙ other.is_used in
      (same_position p q image.0 copy image.1 used, sym one.is_state ∙ ap (λ (i : State). replayed i one.batches) image.2 ∙ ap (replayed other.image) same ∙ other.is_state)
