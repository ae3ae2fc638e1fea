-- The first of those that wait, tried again.
use Rattle.std.proofs.Common.{◌≡◌, inl, ℤ, List, [], ◌∷◌, ◌++◌, length, map, Some, None, ap, ◌∙◌, arith}
use Rattle.std.proofs.lemmas.List.{map_push}
use Rattle.tmem_spine.specs.Views.{PassRoleView}
use Rattle.tmem_answers.specs.declared.answer.Answer.{Answer}
use Rattle.tmem_requests.specs.declared.request.RequestBody.{RequestBody}
use Rattle.tmem_desk.specs.Asking.{Store, Tries}
use Rattle.tmem_desk.specs.Desks.{DeskView}
use Rattle.tmem_desk.specs.Serving.{TriesNext, tells}
use Rattle.tmem_desk.specs.Told.{answer_told}
use Rattle.tmem_desk.proofs.Answering.{tries_first}

-- none waits
pub none_first : {X : Type 0} (g : X → ℤ × RequestBody) (s : Store) (xs : List X) (v w : DeskView) → v.waiting ≡ map g xs → length xs ≡ 0 → w ≡ v → TriesNext s v w
none_first g s [] v w all none is = inl (all, is)
none_first g s (x ∷ xs) v w all none is = absurd (omega arith)

-- it is answered
pub answers_first : {X : Type 0} (g : X → ℤ × RequestBody) (s : Store) (x : X) (xs items : List X) (id : ℤ) (given : Answer) (v w : DeskView) (pass : PassRoleView) → v.waiting ≡ map g xs → xs ≡ x ∷ items
    → id ≡ (g x).0 → Tries s (g x).1 v.pass (Some given) pass → w ≡ tells (record v { pass = pass; waiting = map g items }) (answer_told id given ∷ []) → TriesNext s v w
answers_first g s x xs items id given v w pass all popped id_is tries is =
    tries_first s (g x).0 (g x).1 (map g items) v w pass (Some given) (all ∙ ap (map g) popped) tries
    (is ∙ ap (λ (i : ℤ). tells (record v { pass = pass; waiting = map g items }) (answer_told i given ∷ [])) id_is)

-- it waits on, behind the others
pub waits_again : {X : Type 0} (g : X → ℤ × RequestBody) (s : Store) (x : X) (xs items behind : List X) (v w : DeskView) (pass : PassRoleView) → v.waiting ≡ map g xs → xs ≡ x ∷ items
    → Tries s (g x).1 v.pass None pass → behind ≡ items ++ x ∷ [] → w ≡ record v { pass = pass; waiting = map g behind } → TriesNext s v w
waits_again g s x xs items behind v w pass all popped tries pushed is =
    tries_first s (g x).0 (g x).1 (map g items) v w pass None (all ∙ ap (map g) popped) tries
    (is ∙ ap (λ (ws : List (ℤ × RequestBody)). record v { pass = pass; waiting = ws }) (ap (map g) pushed ∙ map_push g items x))
