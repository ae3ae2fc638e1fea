-- What a device holds after it was written over from the front.
use Rattle.std.proofs.Common.{◌≡◌, ◌≤◌, ◌+◌, ◌-◌, ℕ, List, [], ◌++◌, length, take, drop, replicate, refl, sym, ◌∙◌, ap, arith, append_assoc, length-append}
use Rattle.std.proofs.lemmas.List.{take_at, drop_at, drop-drop, length-replicate, replicate-append-replicate}
use Rattle.tmem_disk.specs.Disk.{overwritten}

-- a part of a list that is written over
over_part : (front was rest items : List ℕ) → length items ≡ length was → overwritten (front ++ (was ++ rest)) (length front) items ≡ front ++ (items ++ rest)
over_part front was rest items long =
    ap (λ (l : List ℕ). (l ++ items) ++ drop (length front + length items) (front ++ (was ++ rest))) (take_at front (was ++ rest) (length front) refl)
    ∙ ap (λ (l : List ℕ). (front ++ items) ++ l) (ap (drop (length front + length items)) (sym (append_assoc front was rest)) ∙ drop_at (front ++ was) rest (length front + length items) (omega (arith, long, length-append front was)))
    ∙ append_assoc front items rest

split_zeros : (m n : ℕ) → m ≤ n → replicate {A = ℕ} n 0 ≡ replicate m 0 ++ replicate (n - m) 0
split_zeros m n le = let e : m + (n - m) ≡ n = omega arith in ap (λ (k : ℕ). replicate k 0) (sym e) ∙ sym (replicate-append-replicate m (n - m) 0)

-- zeros behind zeros
pub zeros_more : (k p : ℕ) (old before after block : List ℕ) → before ≡ replicate k 0 ++ drop k old → after ≡ overwritten before k block → block ≡ replicate p 0 → after ≡ replicate (k + p) 0 ++ drop (k + p) old
zeros_more k p old before after block zeros is blank =
    let long : length block ≡ p = ap length blank ∙ length-replicate p 0 in
    let front : take k before ≡ replicate k 0 = ap (take k) zeros ∙ take_at (replicate k 0) (drop k old) k (length-replicate k 0) in
    let behind : drop k before ≡ drop k old = ap (drop k) zeros ∙ drop_at (replicate k 0) (drop k old) k (length-replicate k 0) in
    let rest : drop (k + length block) before ≡ drop (k + p) old = sym (drop-drop (length block) k before) ∙ ap (drop (length block)) behind ∙ drop-drop (length block) k old ∙ ap (λ (n : ℕ). drop (k + n) old) long in
    is ∙ ap (λ (l : List ℕ). (l ++ block) ++ drop (k + length block) before) front ∙ ap (λ (l : List ℕ). (replicate k 0 ++ l) ++ drop (k + length block) before) blank
    ∙ ap (λ (l : List ℕ). l ++ drop (k + length block) before) (replicate-append-replicate k p 0) ∙ ap (λ (l : List ℕ). replicate (k + p) 0 ++ l) rest

-- over zeros, a second part and then a first one
pub two_parts : (e n m : ℕ) (first second rest zeroed between whole : List ℕ) → length first ≡ n → length second ≡ m → n + m ≤ e → zeroed ≡ replicate e 0 ++ rest → between ≡ overwritten zeroed n second → whole ≡ overwritten between 0 first
    → whole ≡ first ++ (second ++ (replicate (e - (n + m)) 0 ++ rest))
two_parts e n m first second rest zeroed between whole long_first long_second fits zeros second_is first_is =
    let tail : List ℕ = replicate (e - (n + m)) 0 ++ rest in
    let le : n ≤ e = omega arith in
    let less : m ≤ e - n = omega arith in
    let left : e - n - m ≡ e - (n + m) = omega arith in
    let parted : zeroed ≡ replicate n 0 ++ (replicate m 0 ++ tail) =
    zeros ∙ ap (λ (l : List ℕ). l ++ rest) (split_zeros n e le ∙ ap (λ (l : List ℕ). replicate n 0 ++ l) (split_zeros m (e - n) less ∙ ap (λ (k : ℕ). replicate m 0 ++ replicate k 0) left))
    ∙ append_assoc (replicate n 0) (replicate m 0 ++ replicate (e - (n + m)) 0) rest ∙ ap (λ (l : List ℕ). replicate n 0 ++ l) (append_assoc (replicate m 0) (replicate (e - (n + m)) 0) rest) in
    let at : n ≡ length (replicate {A = ℕ} n 0) = sym (length-replicate n 0) in
    let then : between ≡ replicate n 0 ++ (second ++ tail) =
    second_is ∙ ap (λ (l : List ℕ). overwritten l n second) parted ∙ ap (λ (k : ℕ). overwritten (replicate n 0 ++ (replicate m 0 ++ tail)) k second) at
    ∙ over_part (replicate n 0) (replicate m 0) tail second (long_second ∙ sym (length-replicate m 0)) in
    first_is ∙ ap (λ (l : List ℕ). overwritten l 0 first) then ∙ over_part [] (replicate n 0) (second ++ tail) first (long_first ∙ at)
