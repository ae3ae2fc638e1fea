-- What is written in several steps, and what holds of results.
use Rattle.std.proofs.Common.{ℕ, ◌⊎◌, inl, inr, List, [], ◌++◌, Option, Some, None, Result, Ok, Err, sym, ap, ◌∙◌, append_assoc, append-nil}
use Rattle.std.specs.Prelude.{IfErr, OnOk, OnErr}
use Rattle.std.specs.Io.KnownBytes.{Appends, Keeps}

-- one text and then another
pub Appends-then : (before mid after : Option (List ℕ)) (first second : List ℕ) → Appends before mid first → Appends mid after second → Appends before after (first ++ second)
Appends-then None mid after first second one other = tt
Appends-then (Some a) None after first second one other = absurd one
Appends-then (Some a) (Some b) None first second one other = absurd other
Appends-then (Some a) (Some b) (Some c) first second one other = other ∙ ap (λ z. z ++ second) one ∙ append_assoc a first second

-- nothing
pub Appends-nil : (before : Option (List ℕ)) → Appends before before []
Appends-nil None = tt
Appends-nil (Some a) = sym (append-nil a)

-- a text, and then nothing that changes what is there
pub Appends-keeps : (before mid after : Option (List ℕ)) (text : List ℕ) → Appends before mid text → Keeps mid after → Appends before after text
Appends-keeps None mid after text one kept = tt
Appends-keeps (Some a) None after text one kept = absurd one
Appends-keeps (Some a) (Some b) None text one kept = absurd kept
Appends-keeps (Some a) (Some b) (Some c) text one kept = kept ∙ one

-- what holds in any case does after Ok
pub ok_of : {T E P : Type 0} (r : Result T E) → P → OnOk r P
ok_of (Ok x) so = so
ok_of (Err e) so = tt

-- what holds of two answers that a call gives with Ok holds of both
pub ok_both : {T E P Q R : Type 0} (r : Result T E) → OnOk r P → OnOk r Q → (P → Q → R) → OnOk r R
ok_both (Ok x) one two both = both one two
ok_both (Err e) one two both = tt

-- and so with Err
pub err_both : {T E Q : Type 0} {P R : E → Type 0} (r : Result T E) → IfErr r P → OnErr r Q → ((e : E) → P e → Q → R e) → IfErr r R
err_both (Ok x) one two both = tt
err_both (Err e) one two both = both e one two

-- what holds in any case does after Err
pub err_of : {T E : Type 0} (P : Type 0) (r : Result T E) → P → OnErr r P
err_of P (Ok x) so = tt
err_of P (Err e) so = so

-- what is not the first of two is the second
pub second_of : {A B : Type 0} → A ⊎ B → (A → ⊥) → B
second_of (inl a) other = absurd (other a)
second_of (inr b) other = b
