-- A content that was written whole.
use Rattle.std.proofs.Common.{◌≡◌, ⊎_elim, ℕ, zero, suc, ◌+◌, ◌≤◌, List, [], ◌∷◌, ◌++◌, length, drop, refl, sym, ◌∙◌, ap, arith, append-nil}
use Rattle.std.proofs.Math.Logic.{∥∥₁_elim}
use Rattle.std.proofs.Props.{props}
use Rattle.tmem_disk.specs.Disk.{overwritten}
use Rattle.tmem_gate.specs.Gate.{IsOpenAt}
use Rattle.tmem_gate.proofs.Laws.{gate_cases}
use Rattle.tmem_init.specs.Content.{IsContent}

-- an opening found block 0 open
pub content_open : (vars slots : ℕ) (names : List (List ℕ)) (c : List ℕ) → IsContent vars slots names c → IsOpenAt 0 c
content_open vars slots names c content = ⊎_elim
    (λ open_now. open_now)
    (λ closed. absurd (∥∥₁_elim content.found.1.stands (hlevel props) (λ h. closed.not_open h.holds.block.gate)))
    (gate_cases 0 c)

-- there is a byte where a gate is open
pub open_some : (c : List ℕ) → IsOpenAt 0 c → 1 ≤ length c
open_some [] is = absurd (cc (is))
open_some (x ∷ xs) is = omega arith

drop_all : (xs : List ℕ) (n : ℕ) → length xs ≤ n → drop n xs ≡ []
drop_all [] zero all = refl
drop_all [] (suc n) all = refl
drop_all (x ∷ xs) zero all = absurd (omega arith)
drop_all (x ∷ xs) (suc n) all = drop_all xs n (omega arith)

-- a content over as many bytes
pub overwritten_whole : (old content : List ℕ) → IsOpenAt 0 content → length old ≤ length content → overwritten old 0 (0xA5 ∷ drop 1 content) ≡ content
overwritten_whole old [] is fits = absurd (cc (is))
overwritten_whole old (x ∷ xs) is fits =
    let first : x ≡ 0xA5 = cc in
    ap (λ (rest : List ℕ). (0xA5 ∷ xs) ++ rest) (drop_all old (0 + length (0xA5 ∷ xs)) (omega arith)) ∙ append-nil (0xA5 ∷ xs) ∙ ap (λ (b : ℕ). b ∷ xs) (sym first)
