-- The names of an image, and zeros up to the version byte.
use Rattle.std.proofs.Common.{◌≡◌, ◌-◌, ℕ, List, ◌++◌, length, replicate, sym, ◌∙◌, ap, arith, length-append}
use Rattle.std.proofs.lemmas.List.{length-replicate}
use Rattle.tmem_effect.specs.Names.{AreRegistered}
use Rattle.tmem_record.specs.Spelling.{names_bytes}
use Rattle.tmem_record.proofs.Laws.{delimits_registered}
use Rattle.tmem_image.specs.Spelling.{names_body}

-- the names, and zeros to the end
pub header_found : (ns : List (List ℕ)) (bytes rest : List ℕ) → length bytes ≡ 2030 → bytes ≡ names_bytes ns ++ rest → rest ≡ replicate (length rest) 0 → bytes ≡ names_body ns
unfolding names_body
header_found ns bytes rest size same blank =
    let long : length rest ≡ 2030 - length (names_bytes ns) = omega (arith, size, ap length same, length-append (names_bytes ns) rest) in
    same ∙ ap (λ (l : List ℕ). names_bytes ns ++ l) (blank ∙ ap (λ (k : ℕ). replicate k 0) long)

pub no_names_there : (bytes : List ℕ) → ((ns : List (List ℕ)) (rest : List ℕ) → AreRegistered ns → bytes ≡ names_bytes ns ++ rest → ⊥) → (os : List (List ℕ)) → AreRegistered os → bytes ≡ names_body os → ⊥
unfolding names_body
no_names_there bytes none os are same = none os (replicate (2030 - length (names_bytes os)) 0) are same

-- where what follows the names is not zeros, no header is spelled
pub not_blank : (ns : List (List ℕ)) (bytes rest : List ℕ) → AreRegistered ns → bytes ≡ names_bytes ns ++ rest → (rest ≡ replicate (length rest) 0 → ⊥) → (os : List (List ℕ)) → AreRegistered os → bytes ≡ names_body os → ⊥
unfolding names_body
not_blank ns bytes rest are same other os are' whole =
    let n : ℕ = 2030 - length (names_bytes os) in
    let parts = delimits_registered ns os rest (replicate n 0) are are' (sym same ∙ whole) in
    other (parts.1 ∙ ap (λ (k : ℕ). replicate k 0) (sym (ap length parts.1 ∙ length-replicate n 0)))
