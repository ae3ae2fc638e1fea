-- Events that are answered one after another.
use Rattle.std.specs.Prelude.{◌≡◌, List, [], ◌∷◌}
use Rattle.tmem_event.specs.declared.event.Event.{Event}
use Rattle.tmem_event.specs.declared.event.Reply.{Reply}

-- From the first of these the events lead to the last, one after another: each with its reply, as one event may.
abbrev pub OneByOne : {X : Type 0} → (X → Event → Reply → X → Type 0) → X → List Event → List Reply → X → Type 0
OneByOne One x [] [] y = y ≡ x
OneByOne {X} One x (e ∷ es) (r ∷ rs) y = (mid : X) × One x e r mid × OneByOne One mid es rs y
OneByOne One x [] (r ∷ rs) y = ⊥
OneByOne One x (e ∷ es) [] y = ⊥
