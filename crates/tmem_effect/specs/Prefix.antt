-- Prefixes of lists.
use Rattle.std.specs.Prelude.{◌≡◌, List, length, take}

-- the first list is a prefix of the second: as many of its first elements are the first list
abbrev pub IsPrefix : {X : Type 0} → List X → List X → Type 0
IsPrefix xs ys = take (length xs) ys ≡ xs
