-- How often a request is waited for or answered.
use Rattle.std.specs.Prelude.{◌≡◌, ◌+◌, ℕ, ℤ, Bool, false, List, [], ◌∷◌, count_by, if◌then◌else◌}
use Rattle.std.specs.Ordering.{int_eq}
use Rattle.tmem_lines.specs.Lines.{IsLine}
use Rattle.tmem_requests.specs.declared.request.RequestBody.{RequestBody}
use Rattle.tmem_desk.specs.Asking.{Store}
use Rattle.tmem_desk.specs.Desks.{DeskView}
use Rattle.tmem_desk.specs.Serving.{IsAskedOf}
use Rattle.tmem_desk.specs.declared.told.Told.{Told}
use Rattle.tmem_desk.specs.declared.told.Told.TheVariants as told

-- whether it waits under one of these ids
abbrev pub waits_of : (ℤ → Bool) → ℤ × RequestBody → Bool
waits_of among w = among w.0

-- whether it is the answer to a request of one of these ids; or tells that a line is no request, where such lines count too
abbrev pub answers_any_of : (ℤ → Bool) → Bool → Told → Bool
answers_any_of among others (told.Answer a) = among a.id
answers_any_of among others (told.NoRequest n) = others

-- how many requests of these ids wait, or are answered and not printed yet; and lines that are none, where they count too
abbrev pub due_of : (ℤ → Bool) → Bool → DeskView → ℕ
due_of among others v = count_by (waits_of among) v.waiting + count_by (answers_any_of among others) v.told

-- this id and no other
abbrev pub is_id : ℤ → ℤ → Bool
is_id id = λ (other : ℤ). int_eq other id

-- whether it is the answer to a request of this id
abbrev pub answers_to : ℤ → Told → Bool
answers_to id = answers_any_of (is_id id) false

-- how many requests of this id wait, or are answered and not printed yet
abbrev pub due : ℤ → DeskView → ℕ
due id v = due_of (is_id id) false v

-- one for a request of this id
abbrev pub one_for : ℤ → ℤ → ℕ
one_for id other = if int_eq other id then 1 else 0

-- A line counts once where it is a request of one of these ids; and where it is none, if such lines count too.
pub record LineCounts (s : Store) (among : ℤ → Bool) (others : Bool) (text : List ℕ) (n : ℕ) : Type 0 where
  pub request : (id : ℤ) (ask : RequestBody) → IsLine text → IsAskedOf s id ask text → n ≡ (if among id then 1 else 0)
  pub none : ((id : ℤ) (ask : RequestBody) → IsLine text → ¬ IsAskedOf s id ask text) → n ≡ (if others then 1 else 0)

-- so many of these lines count
abbrev pub LinesCount : Store → (ℤ → Bool) → Bool → List (List ℕ) → ℕ → Type 0
LinesCount s among others [] n = n ≡ 0
LinesCount s among others (text ∷ texts) n =
    (first : ℕ) × (rest : ℕ) × LineCounts s among others text first × LinesCount s among others texts rest × (n ≡ first + rest)

-- From v to w these lines were taken, and none is lost: of whatever ids, so many more are due then as count.
abbrev pub LosesNone : Store → List (List ℕ) → DeskView → DeskView → Type 0
LosesNone s texts v w = (among : ℤ → Bool) (others : Bool) (n : ℕ) → LinesCount s among others texts n → due_of among others w ≡ due_of among others v + n

-- as many are due as were
abbrev pub KeepsDue : DeskView → DeskView → Type 0
KeepsDue v w = (among : ℤ → Bool) (others : Bool) → due_of among others w ≡ due_of among others v
