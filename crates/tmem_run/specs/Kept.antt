-- What is kept of an entry that was refused.
use Rattle.std.specs.Prelude.{◌≡◌, ◌⊎◌, ℕ, Bool, true, false, List, [], ◌∷◌, ◌++◌}
use Rattle.tmem_event.specs.declared.event.Reply.{Reply}
use Rattle.tmem_event.specs.declared.event.Reply.TheVariants as reply
use Rattle.tmem_run.specs.declared.trace.Trace.{Trace}
use Rattle.tmem_run.specs.declared.trace.Refused.{Refused}

-- The entry of this number, where it was refused, with its fault; and nothing of one that was not.
abbrev pub refused_in : ℕ → Reply → List Refused
refused_in index (reply.Fault fault) = record { index = index; fault = fault } ∷ []
refused_in index _ = []

-- This is kept of an entry: nothing unless more is to be told, and else that it was refused, or nothing for want of memory.
abbrev pub IsKeptOf : Bool → ℕ → Reply → List Refused → List Refused → Type 0
IsKeptOf false index r before after = after ≡ before
IsKeptOf true index r before after = (after ≡ before) ⊎ (after ≡ before ++ refused_in index r)

-- what is kept of the entries stays, and whether anything is kept
pub record KeepsEntries (old new : Trace) : Type 0 where
  pub explains : new.explains ≡ old.explains
  pub played : new.played ≡ old.played
  pub refused : new.refused ≡ old.refused
  pub counts : new.counts ≡ old.counts

-- all but what is kept of the entries stays
pub record KeepsOthers (old new : Trace) : Type 0 where
  pub explains : new.explains ≡ old.explains
  pub text : new.text ≡ old.text
  pub is_held : new.is_held ≡ old.is_held
