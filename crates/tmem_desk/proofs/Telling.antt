-- What is told more, and then more again.
use Rattle.std.proofs.Common.{◌≡◌, ℤ, List, [], ◌∷◌, ◌++◌, length, map, append_assoc, refl, ap, ap₂, sym, ◌∙◌, arith}
use Rattle.std.proofs.lemmas.List.{append-nil}
use Rattle.tmem_fault.specs.declared.fault.Fault.TheVariants as fault
use Rattle.tmem_answers.specs.declared.answer.Answer.TheVariants as answer
use Rattle.tmem_requests.specs.declared.request.RequestBody.{RequestBody}
use Rattle.tmem_desk.specs.Counts.{counts_with, counts_after}
use Rattle.tmem_desk.specs.Desks.{DeskView}
use Rattle.tmem_desk.specs.Serving.{closed, tells}
use Rattle.tmem_desk.specs.Told.{answer_told}
use Rattle.tmem_desk.specs.declared.counts.AnswerCounts.{AnswerCounts}
use Rattle.tmem_desk.specs.declared.told.Told.{Told}
use Rattle.tmem_desk.specs.declared.told.Told.TheVariants as told

counts_again : (c : AnswerCounts) (xs ys : List Told) → counts_after c (xs ++ ys) ≡ counts_after (counts_after c xs) ys
counts_again c [] ys = refl
counts_again c (told.Answer a ∷ xs) ys = counts_again (counts_with c a.answer) xs ys
counts_again c (told.NoRequest n ∷ xs) ys = counts_again c xs ys

pub tells_tells : (v : DeskView) (xs ys : List Told) → tells (tells v xs) ys ≡ tells v (xs ++ ys)
tells_tells v xs ys = ap₂ (λ (all : List Told) (c : AnswerCounts). record v { told = all; counts = c }) (append_assoc v.told xs ys) (sym (counts_again v.counts xs ys))

-- one more is told that the store is closed
closed_more : {X : Type 0} (f : X → ℤ × RequestBody) (xs : List X) (x : X) → closed (map f (xs ++ x ∷ [])) ≡ closed (map f xs) ++ answer_told (f x).0 (answer.Fault fault.Closed) ∷ []
closed_more f [] x = refl
closed_more f (y ∷ xs) x = ap (λ (ts : List Told). answer_told (f y).0 (answer.Fault fault.Closed) ∷ ts) (closed_more f xs x)

pub closes_more : {X : Type 0} (f : X → ℤ × RequestBody) (xs : List X) (x : X) (v mid w : DeskView) → mid ≡ tells v (closed (map f xs)) → w ≡ tells mid (answer_told (f x).0 (answer.Fault fault.Closed) ∷ [])
    → w ≡ tells v (closed (map f (xs ++ x ∷ [])))
closes_more f xs x v mid w is more =
    more ∙ (ap (λ (d : DeskView). tells d (answer_told (f x).0 (answer.Fault fault.Closed) ∷ [])) is
    ∙ (tells_tells v (closed (map f xs)) (answer_told (f x).0 (answer.Fault fault.Closed) ∷ []) ∙ ap (tells v) (sym (closed_more f xs x))))

-- and none is left
pub closes_all : {X : Type 0} (f : X → ℤ × RequestBody) (xs rest all : List X) (v w : DeskView) → xs ++ rest ≡ all → length rest ≡ 0 → w ≡ tells v (closed (map f xs)) → w ≡ tells v (closed (map f all))
closes_all f xs [] all v w parts none is = is ∙ ap (λ (ys : List _). tells v (closed (map f ys))) (sym (append-nil xs) ∙ parts)
closes_all f xs (x ∷ rest) all v w parts none is = absurd (omega arith)
