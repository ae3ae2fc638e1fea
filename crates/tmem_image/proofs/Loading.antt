-- A copy of an image, from the bytes that were read of it.
use Rattle.std.proofs.Common.{◌≡◌, ◌≤◌, ◌+◌, ◌-◌, ℕ, Option, Some, None, List, length, take, drop, sym, ◌∙◌, ap, subst, arith}
use Rattle.std.proofs.lemmas.Nat.{mul-le}
use Rattle.std.specs.Prelude.{slice_range, Result, Ok, IfOk, IfErr, IfSome, IfNone}
use Rattle.std.specs.Option.{ok_or}
use Rattle.tmem_disk.specs.Disk.{DeviceView}
use Rattle.tmem_fault.specs.declared.fault.Fault.{Fault}
use Rattle.tmem_fault.specs.declared.fault.Fault.TheVariants.{Damaged}
use Rattle.tmem_gate.specs.Calls.{Uses, IsWhyNone}
use Rattle.tmem_gate.specs.Gate.{IsOpenAt, IsClosed, IsOpenOver}
use Rattle.tmem_record.specs.Layout.{image_at, image_size, end_at}
use Rattle.tmem_effect.specs.State.{State}
use Rattle.tmem_state.specs.declared.version.Version.{Version}
use Rattle.tmem_record.specs.Spelling.{number_bytes}
use Rattle.tmem_record.specs.StandsAt.{StandsAt}
use Rattle.tmem_record.proofs.Laws.{gate_open, gate_opened, gate_closed, length-number_bytes, part_read}
use Rattle.tmem_image.specs.Image.{IsGeneration, HoldsImage}
use Rattle.tmem_image.specs.Spelling.{image_body, IsImage}
use Rattle.tmem_image.proofs.Lengths.{length-image_body}

-- nothing found is a refusal as damaged
pub none_for : {X Q : Type 0} (P : Type 0) → (o : Option X) (r : Result X Fault) → r ≡ ok_or o Damaged → IfNone o Q → (Q → P) → IfErr r (IsWhyNone P)
none_for {X = X} {Q = Q} P o r is q from = subst (λ (s : Result X Fault). IfErr s (IsWhyNone P)) (sym is) (cases o q)
  where
    cases : (o : Option X) → IfNone o Q → IfErr (ok_or o Damaged) (IsWhyNone P)
    cases None q = from q
    cases (Some x) q = tt

-- the same under a premise
pub none_under : {X : Type 0} (K P : Type 0) → (o : Option X) → (K → IfNone o P) → IfNone o (K → P)
none_under K P None from = from
none_under K P (Some x) from = tt

-- what was found is of its kind
pub some_for : {X : Type 0} (R S T V : X → Type 0) → (o : Option X) (r : Result X Fault) → r ≡ ok_or o Damaged → IfSome o R → IfSome o S → IfSome o T → ((x : X) → R x → S x → T x → V x) → IfOk r V
some_for {X = X} R S T V o r is first second third from = subst (λ (q : Result X Fault). IfOk q V) (sym is) (cases o first second third)
  where
    cases : (o : Option X) → IfSome o R → IfSome o S → IfSome o T → IfOk (ok_or o Damaged) V
    cases None a b d = tt
    cases (Some x) a b d = from x a b d

pub some_is : {X : Type 0} (R : X → Type 0) → (o : Option X) (r : Result X Fault) → r ≡ ok_or o Damaged → IfSome o R → IfOk r R
some_is R o r is it = some_for R R R R o r is it it it (λ x first second third. first)

-- nothing found is no failure of a call
pub used_for : {X Y : Type 0} (old new : DeviceView) (y : Y) → (o : Option X) (r : Result X Fault) → r ≡ ok_or o Damaged → Uses old new (Ok y) → Uses old new r
used_for {X = X} old new y o r is uses = subst (λ (q : Result X Fault). Uses old new q) (sym is) (cases o)
  where
    cases : (o : Option X) → Uses old new (ok_or o Damaged)
    cases None = record { capacity = uses.capacity; model = uses.model; failures = uses.failures }
    cases (Some x) = record { capacity = uses.capacity; model = uses.model; failures = uses.failures }

-- a copy lies within the device, and has at least its gate
pub copy_within : (vars slots copy at n capacity : ℕ) → at ≡ image_at vars copy → n ≡ image_size vars → copy ≤ 1 → end_at vars slots ≤ capacity → at + n ≤ capacity
copy_within vars slots copy at n capacity offset long one room = omega (arith, mul-le copy (image_size vars) 1 (image_size vars) one (omega arith))

pub has_gate : (vars n : ℕ) → n ≡ image_size vars → 1 ≤ n
has_gate vars n long = omega arith

-- what was read from the offset of a copy on, into a room of its size
pub whole_read : (vars copy at n : ℕ) (c bytes : List ℕ) → at ≡ image_at vars copy → n ≡ image_size vars → bytes ≡ slice_range c at (at + n) → bytes ≡ slice_range c (image_at vars copy) (image_at vars copy + image_size vars)
whole_read vars copy at n c bytes offset long read = read ∙ ap (λ (p : ℕ). slice_range c p (p + n)) offset ∙ ap (λ (m : ℕ). slice_range c (image_at vars copy) (image_at vars copy + m)) long

-- a copy as it was read, with its gate
module _ (vars copy size : ℕ) (c bytes : List ℕ) (long : size ≡ image_size vars) (read : bytes ≡ slice_range c (image_at vars copy) (image_at vars copy + size)) where
  body_read : take (size - 1) (drop 1 bytes) ≡ slice_range c (image_at vars copy + 1) (image_at vars copy + 1 + (size - 1))
  body_read = part_read c bytes (image_at vars copy) size read 1 (size - 1) (omega (arith, long))

  length_of : (v : Version) (generation : ℕ) (s : State) → IsImage vars s → length (image_body v vars generation s) ≡ size - 1
  length_of v generation s fits = omega (arith, long, length-image_body v vars generation s fits.names fits.values)

  -- the image that was found in it
  pub image_found : (v : Version) (generation : ℕ) (s : State) → IsOpenAt 0 bytes → IsGeneration generation → IsImage vars s → take (size - 1) (drop 1 bytes) ≡ image_body v vars generation s → HoldsImage v vars copy generation s c
  image_found v generation s opened number fits same = record {
    number = number;
    fits = fits;
    cell = record {
      gate = gate_open c bytes (image_at vars copy) size read 0 (image_at vars copy) (omega arith) (omega (arith, long)) opened;
      body = ap (λ (n : ℕ). slice_range c (image_at vars copy + 1) (image_at vars copy + 1 + n)) (length_of v generation s fits) ∙ sym body_read ∙ same;
    };
  }

  -- the gate of an image that it holds was read open
  pub gate_there : (v : Version) (generation : ℕ) (s : State) → HoldsImage v vars copy generation s c → IsOpenAt 0 bytes
  gate_there v generation s holds = gate_opened c bytes (image_at vars copy) size read 0 (image_at vars copy) (omega arith) (omega (arith, long)) holds.cell.gate

  -- an image that it holds was read
  pub image_there : (v : Version) (generation : ℕ) (s : State) → HoldsImage v vars copy generation s c → take (size - 1) (drop 1 bytes) ≡ image_body v vars generation s
  image_there v generation s holds = body_read ∙ ap (λ (n : ℕ). slice_range c (image_at vars copy + 1) (image_at vars copy + 1 + n)) (sym (length_of v generation s holds.fits)) ∙ holds.cell.body

-- the front of a cell as it was read: its gate, and a generation
module _ (at : ℕ) (c front : List ℕ) (read : front ≡ slice_range c at (at + 9)) where
  pub front_closed : (IsOpenAt 0 front → ⊥) → IsClosed at c
  front_closed closed = gate_closed c front at 9 read 0 at (omega arith) (omega arith) (record { not_open = closed })

  pub front_open : (generation : ℕ) → IsOpenAt 0 front → StandsAt 1 (number_bytes 8 generation) front → IsOpenOver at (number_bytes 8 generation) c
  front_open generation opened stands = record {
    gate = gate_open c front at 9 read 0 at (omega arith) (omega arith) opened;
    body = sym (part_read c front at 9 read 1 (length (number_bytes 8 generation)) (omega (arith, length-number_bytes 8 generation))) ∙ stands.is;
  }
