-- Lines that are printed one by one.
use Rattle.std.proofs.Common.{ℕ, ◌+◌, List, [], ◌∷◌, ◌++◌, Option, Some, None, length-append, refl, ap, ◌∙◌, append_assoc, append-nil}
use Rattle.std.proofs.lemmas.Grind.{flat_map-append}
use Rattle.std.specs.Io.KnownBytes.{Appends}
use Rattle.tmem_bench.specs.Printed.{head, line, printed, PrintsTable}

-- one text and then another
appends_then : (before mid after : Option (List ℕ)) (first second : List ℕ) → Appends before mid first → Appends mid after second → Appends before after (first ++ second)
appends_then None mid after first second one other = tt
appends_then (Some a) None after first second one other = absurd one
appends_then (Some a) (Some b) None first second one other = absurd other
appends_then (Some a) (Some b) (Some c) first second one other = other ∙ ap (λ z. z ++ second) one ∙ append_assoc a first second

-- the head alone
pub only_head : (before after : Option (List ℕ)) → Appends before after (line head) → PrintsTable before after 0
only_head before after told = record { lines = []; many = refl; told = rw (append-nil (line head)) told }

-- one line more
pub one_more : (before mid after : Option (List ℕ)) (count : ℕ) (text : List ℕ) → PrintsTable before mid count → Appends mid after (line text) → PrintsTable before after (count + 1)
one_more before mid after count text had told = record {
  lines = had.lines ++ text ∷ [];
  many = length-append had.lines (text ∷ []) ∙ ap (λ n. n + 1) had.many;
  told = rw (flat_map-append line (head ∷ had.lines) (text ∷ [])) (appends_then before mid after (printed (head ∷ had.lines)) (printed (text ∷ [])) had.told (rw (append-nil (line text)) told));
}
