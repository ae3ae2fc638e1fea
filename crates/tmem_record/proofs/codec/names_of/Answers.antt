use Rattle.std.proofs.Common.{◌≡◌, ℕ, List, [], ◌∷◌, ◌++◌, ◌∙◌, ap, arith}
use Rattle.tmem_record.specs.Spelling.{names_bytes}
use Rattle.tmem_record.proofs.CodecReads.{or_none, checks, no_bytes}
use Rattle.tmem_record.proofs.codec.names_of.Goals as goal

pub returns-in_err-count-clause-none : goal.returns-in_err-count-clause-none
returns-in_err-count-clause-none c = or_none _ (no_bytes checks c.args.bytes.now c.in_err-count.ensures.none)

-- a count of none is all that no names have
no_names : (bytes behind : List ℕ) (n : ℕ) (names : List (List ℕ)) → bytes ≡ n ∷ behind → n ≡ 0 → names ≡ [] → bytes ≡ names_bytes names ++ behind
unfolding names_bytes
no_names bytes behind n names parts zero none = rw none (parts ∙ ap (λ (k : ℕ). k ∷ behind) zero)

pub returns-then-count-eq0-clause-found : goal.returns-then-count-eq0-clause-found
returns-then-count-eq0-clause-found c = no_names c.args.bytes.now c.in_ok-count.behind.now c.in_ok-count.count c.args.names.now c.in_ok-count.ensures.found (omega (arith, c.if-count-eq0.true)) c.requires
