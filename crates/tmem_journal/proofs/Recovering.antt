-- The parts of a content that were found, put together.
use Rattle.std.proofs.Common.{◌≡◌, ◌≤◌, ℕ, List, sym, ◌∙◌, subst}
use Rattle.tmem_disk.specs.Disk.{DeviceView, LeavesOnly, IsSynced}
use Rattle.tmem_disk.proofs.Laws.{IsSynced-after}
use Rattle.tmem_gate.specs.Calls.{OnlyReads}
use Rattle.tmem_gate.specs.Gate.{IsOpenOver}
use Rattle.tmem_gate.proofs.Laws.{OnlyReads-trans}
use Rattle.tmem_record.specs.Layout.{image_at}
use Rattle.tmem_record.specs.Stale.{IsClosedOrStale}
use Rattle.tmem_effect.specs.State.{State}
use Rattle.tmem_state.specs.Versions.{version_number}
use Rattle.tmem_state.specs.declared.version.Version.{Version}
use Rattle.tmem_effect.specs.declared.effect.Effect.{Effect}
use Rattle.tmem_image.specs.Image.{HoldsImage, ChoosesCopy, other_copy}
use Rattle.tmem_image.proofs.Laws.{front_of_image, one_head, one_choice, one_image}
use Rattle.tmem_redolog.specs.Log.{HoldsLog}
use Rattle.tmem_redolog.specs.Scans.{FindsLog}
use Rattle.tmem_redolog.specs.declared.log.Log.{Log}
use Rattle.tmem_journal.specs.BlockSpelling.{block_body}
use Rattle.tmem_journal.specs.Contents.{Position, position_at, Holds, HoldsState}
use Rattle.tmem_journal.proofs.Refused.{one_block}
use Rattle.tmem_journal.proofs.Unique.{chosen_of}

-- the other copy is stale for the image that the chosen one holds
other_stale : (version : Version) (vars copy generation : ℕ) (image : State) (c : List ℕ) → ChoosesCopy vars copy c → HoldsImage version vars copy generation image c → IsClosedOrStale generation (image_at vars (other_copy copy)) c
other_stale version vars copy generation image c chosen holds =
    let head = front_of_image version vars generation (image_at vars copy) image c holds.cell in
    let same : chosen.0 ≡ generation = one_head (image_at vars copy) chosen.0 generation c chosen.1.fits holds.number.fits chosen.1.cell head in
    subst (λ (g : ℕ). IsClosedOrStale g (image_at vars (other_copy copy)) c) same chosen.1.other

-- block 0, the image of the chosen copy and a log over it make a state
pub all_parts : (block_version version : Version) (vars slots copy generation : ℕ) (image s : State) (log : Log) (c : List ℕ) → version_number block_version ≤ version_number version → copy ≤ 1 → log.generation ≡ generation → IsOpenOver 0 (block_body block_version vars slots) c
    → ChoosesCopy vars copy c → HoldsImage version vars copy generation image c → FindsLog version vars slots generation image log.used s c → HoldsState vars slots (position_at version copy log) s c
all_parts block_version version vars slots copy generation image s log c allowed one same block chosen holds found =
    let all : Holds version vars slots copy generation image found.batches c =
    record { block_version = block_version; allowed = allowed; block = block; one = one; chosen = holds; other = other_stale version vars copy generation image c chosen holds; log = found.holds } in
    record {
      image = image;
      batches = found.batches;
      holds = subst (λ (g : ℕ). Holds version vars slots copy g image found.batches c) (sym same) all;
      is_used = found.is_used;
      is_state = found.is_state;
    }

-- A content represents nothing where a part is missing, as it is read later.
module _ (vars slots : ℕ) (c then : List ℕ) (same : then ≡ c) where
  -- no copy is chosen
  pub no_choice : ((copy : ℕ) → ChoosesCopy vars copy then → ⊥) → (p : Position) (s : State) → HoldsState vars slots p s c → ⊥
  no_choice none p s stands = none p.copy (subst (λ (x : List ℕ). ChoosesCopy vars p.copy x) (sym same) (chosen_of stands.holds))

  -- the chosen one holds no image
  pub no_image : (copy : ℕ) → ChoosesCopy vars copy c → ((version : Version) (generation : ℕ) (s : State) → HoldsImage version vars copy generation s then → ⊥) → (p : Position) (s : State) → HoldsState vars slots p s c → ⊥
  no_image copy chosen none p s stands =
      let one : p.copy ≡ copy = one_choice vars p.copy copy c (chosen_of stands.holds) chosen in
      let image : HoldsImage p.version vars copy p.generation stands.image c = subst (λ (k : ℕ). HoldsImage p.version vars k p.generation stands.image c) one stands.holds.chosen in
      none p.version p.generation stands.image (subst (λ (x : List ℕ). HoldsImage p.version vars copy p.generation stands.image x) (sym same) image)

  module _ (version : Version) (copy generation : ℕ) (image : State) (chosen : ChoosesCopy vars copy c) (holds : HoldsImage version vars copy generation image c) where
    -- what stands there is that image
    that_image : (p : Position) (s : State) (stands : HoldsState vars slots p s c) → (p.version ≡ version) × (p.generation ≡ generation) × (stands.image ≡ image)
    that_image p s stands =
        let one : p.copy ≡ copy = one_choice vars p.copy copy c (chosen_of stands.holds) chosen in
        let other : HoldsImage p.version vars copy p.generation stands.image c = subst (λ (k : ℕ). HoldsImage p.version vars k p.generation stands.image c) one stands.holds.chosen in
        one_image p.version version vars copy p.generation generation stands.image image c other holds

    -- there is no log over its image
    pub no_log : ((batches : List (List Effect)) → HoldsLog version vars slots generation image batches then → ⊥) → (p : Position) (s : State) → HoldsState vars slots p s c → ⊥
    no_log none p s stands =
        let both = that_image p s stands in
        let log : HoldsLog version vars slots generation stands.image stands.batches c =
        subst (λ (v : Version). HoldsLog v vars slots generation stands.image stands.batches c) both.0 (subst (λ (g : ℕ). HoldsLog p.version vars slots g stands.image stands.batches c) both.1 stands.holds.log) in
        let same_image : HoldsLog version vars slots generation image stands.batches c = subst (λ (i : State). HoldsLog version vars slots generation i stands.batches c) both.2 log in
        none stands.batches (subst (λ (x : List ℕ). HoldsLog version vars slots generation image stands.batches x) (sym same) same_image)

    -- block 0 is of a later version than its image
    pub no_later : (block_version : Version) → IsOpenOver 0 (block_body block_version vars slots) c → (version_number block_version ≤ version_number version → ⊥) → (p : Position) (s : State) → HoldsState vars slots p s c → ⊥
    no_later block_version block later p s stands =
        let numbers : version_number stands.holds.block_version ≡ version_number block_version = one_block vars slots stands.holds.block_version block_version c stands.holds.block block in
        later (subst (λ (v : Version). version_number block_version ≤ version_number v) (that_image p s stands).0 (subst (λ (n : ℕ). n ≤ version_number p.version) numbers stands.holds.allowed))

-- what is synced leaves what a read gives
pub leaves_seen : {d : DeviceView} {P : List ℕ → Type 0} → IsSynced d → (d.keeps_model → P d.seen) → LeavesOnly d P
leaves_seen {P = P} synced holds = record { each = λ k c left. subst P (sym (synced k c left)) (holds k) }

-- four calls that only look, and a fifth
pub looking_four : (a b c d e : DeviceView) → (c.keeps_model → b.keeps_model) → (d.keeps_model → c.keeps_model) → (e.keeps_model → d.keeps_model) → OnlyReads a b → OnlyReads b c → OnlyReads c d → OnlyReads d e → OnlyReads a e
looking_four a b c d e m1 m2 m3 l1 l2 l3 l4 = OnlyReads-trans a d e m3 (OnlyReads-trans a c d m2 (OnlyReads-trans a b c m1 l1 l2) l3) l4

pub looking : (a b c d e f : DeviceView) → (c.keeps_model → b.keeps_model) → (d.keeps_model → c.keeps_model) → (e.keeps_model → d.keeps_model) → (f.keeps_model → e.keeps_model)
    → OnlyReads a b → OnlyReads b c → OnlyReads c d → OnlyReads d e → OnlyReads e f → OnlyReads a f
looking a b c d e f m1 m2 m3 m4 l1 l2 l3 l4 l5 = OnlyReads-trans a e f m4 (looking_four a b c d e m1 m2 m3 l1 l2 l3 l4) l5

-- four calls that only look, of a synced device
pub synced_since : (a b c d e : DeviceView) → (b.keeps_model → a.keeps_model) → (c.keeps_model → b.keeps_model) → (d.keeps_model → c.keeps_model) → (e.keeps_model → d.keeps_model)
    → OnlyReads a b → OnlyReads b c → OnlyReads c d → OnlyReads d e → IsSynced a → IsSynced e
synced_since a b c d e m1 m2 m3 m4 l1 l2 l3 l4 synced =
    let since = looking_four a b c d e m2 m3 m4 l1 l2 l3 l4 in
    IsSynced-after a e (λ k. m1 (m2 (m3 (m4 k)))) since.crash since.seen synced

-- the parts as a reader met them one after another, of one content
module _ (vars slots copy : ℕ) (seen s1 s2 s3 : List ℕ) (is1 : s1 ≡ seen) (is2 : s2 ≡ s1) (is3 : s3 ≡ s2) where
  at_2 : s2 ≡ seen
  at_2 = is2 ∙ is1

  at_3 : s3 ≡ seen
  at_3 = is3 ∙ at_2

  chosen_at : ChoosesCopy vars copy s2 → ChoosesCopy vars copy seen
  chosen_at chosen = subst (λ (c : List ℕ). ChoosesCopy vars copy c) at_2 chosen

  pub image_missing : ChoosesCopy vars copy s2 → ((version : Version) (g : ℕ) (s : State) → HoldsImage version vars copy g s s3 → ⊥) → (p : Position) (t : State) → HoldsState vars slots p t seen → ⊥
  image_missing chosen none = no_image vars slots seen s3 at_3 copy (chosen_at chosen) none

  module _ (version : Version) (generation : ℕ) (image : State) where
    image_there : HoldsImage version vars copy generation image s3 → HoldsImage version vars copy generation image seen
    image_there holds = subst (λ (c : List ℕ). HoldsImage version vars copy generation image c) at_3 holds

    pub block_later : (block_version : Version) → IsOpenOver 0 (block_body block_version vars slots) s1 → (version_number block_version ≤ version_number version → ⊥) → ChoosesCopy vars copy s2 → HoldsImage version vars copy generation image s3
        → (p : Position) (t : State) → HoldsState vars slots p t seen → ⊥
    block_later block_version block later chosen holds =
        no_later vars slots seen s3 at_3 version copy generation image (chosen_at chosen) (image_there holds) block_version (subst (λ (c : List ℕ). IsOpenOver 0 (block_body block_version vars slots) c) is1 block) later

    module _ (s4 : List ℕ) (is4 : s4 ≡ s3) where
      at_4 : s4 ≡ seen
      at_4 = is4 ∙ at_3

      pub log_missing : ChoosesCopy vars copy s2 → HoldsImage version vars copy generation image s3 → ((batches : List (List Effect)) → HoldsLog version vars slots generation image batches s4 → ⊥) → (p : Position) (t : State) → HoldsState vars slots p t seen → ⊥
      log_missing chosen holds none = no_log vars slots seen s4 at_4 version copy generation image (chosen_at chosen) (image_there holds) none

      pub all_found : (block_version : Version) (s : State) (log : Log) → version_number block_version ≤ version_number version → copy ≤ 1 → log.generation ≡ generation → IsOpenOver 0 (block_body block_version vars slots) s1 → ChoosesCopy vars copy s2
          → HoldsImage version vars copy generation image s3 → FindsLog version vars slots generation image log.used s s4 → HoldsState vars slots (position_at version copy log) s seen
      all_found block_version s log allowed one same block chosen holds found =
          all_parts block_version version vars slots copy generation image s log seen allowed one same (subst (λ (c : List ℕ). IsOpenOver 0 (block_body block_version vars slots) c) is1 block) (chosen_at chosen) (image_there holds)
          (subst (λ (c : List ℕ). FindsLog version vars slots generation image log.used s c) at_4 found)
