-- What a crash leaves of a journal, by what its seat says.
use Rattle.std.proofs.Common.{◌≡◌, ◌⊎◌, inl, inr, ⊎_elim, ℕ, List, subst}
use Rattle.std.proofs.Math.Logic.{∥∥₁_map, ∥∥₁_elim, ∥∥₁_prop}
use Rattle.tmem_disk.specs.Disk.{DeviceView, LeavesOnly}
use Rattle.tmem_effect.specs.State.{State}
use Rattle.tmem_journal.specs.Contents.{Position, HoldsState, ContentRepresentsEither}

-- where the second state is the first or a third, the third may stand in its place
pub either_of : (vars slots : ℕ) (s t u : State) (c : List ℕ) → ∥ (t ≡ s) ⊎ (t ≡ u) ∥₁ → ContentRepresentsEither vars slots s t c → ContentRepresentsEither vars slots s u c
either_of vars slots s t u c which stands = ∥∥₁_elim which ∥∥₁_prop (λ w. ⊎_elim
    (λ (same : t ≡ s). ∥∥₁_map stands (λ held. (held.0, inl (⊎_elim (λ (h : HoldsState vars slots held.0 s c). h) (λ (h : HoldsState vars slots held.0 t c). subst (λ (x : State). HoldsState vars slots held.0 x c) same h) held.1))))
    (λ (same : t ≡ u). subst (λ (x : State). ContentRepresentsEither vars slots s x c) same stands) w)

pub leaves : (d : DeviceView) (vars slots : ℕ) (s s' t u : State) → s ≡ s' → ∥ (t ≡ s') ⊎ (t ≡ u) ∥₁ → LeavesOnly d (ContentRepresentsEither vars slots s t) → LeavesOnly d (ContentRepresentsEither vars slots s' u)
leaves d vars slots s s' t u is which only = record {
  each = λ keeps c left. either_of vars slots s' t u c which (subst (λ (x : State). ContentRepresentsEither vars slots x t c) is (only.each keeps c left));
}

-- a content that represents one of these states represents one of those
pub either_all : (vars slots : ℕ) (s t a b : State) (c : List ℕ) → (s ≡ a) ⊎ (s ≡ b) → (t ≡ a) ⊎ (t ≡ b) → ContentRepresentsEither vars slots s t c → ContentRepresentsEither vars slots a b c
either_all vars slots s t a b c first second stands = ∥∥₁_map stands (λ held. (held.0, ⊎_elim (one held.0 s first) (one held.0 t second) held.1))
  where
    one : (p : Position) (x : State) → (x ≡ a) ⊎ (x ≡ b) → HoldsState vars slots p x c → HoldsState vars slots p a c ⊎ HoldsState vars slots p b c
    one p x which h = ⊎_elim (λ (e : x ≡ a). inl (subst (λ (y : State). HoldsState vars slots p y c) e h)) (λ (e : x ≡ b). inr (subst (λ (y : State). HoldsState vars slots p y c) e h)) which
