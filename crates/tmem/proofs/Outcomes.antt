-- What became of a command line.
use Rattle.std.proofs.Common.{◌≡◌, ◌≤◌, ℕ, List, [], ◌∷◌, Option, Some, None, Bor, Result, Ok, Err, refl, sym, inl, inr, subst, option_map, ◌∙◌, arith}
use Rattle.std.specs.Prelude.{IfErr, IsSome, OnErr, MatchResult}
use Rattle.clap.specs.Kinds.{Kinds, IsAmong, HasKind}
use Rattle.clap.specs.Values.{kind_of}
use Rattle.clap.specs.declared.error.Error.{Error}
use Rattle.clap.specs.declared.error.kind.ErrorKind.{ErrorKind}
use Rattle.tmem_script.specs.Statuses.{status_of}
use Rattle.tmem_script.specs.declared.failure.ProgramFailure.{ProgramFailure}
use Rattle.tmem_run.specs.declared.playing.Played.{Played}
use Rattle.tmem_args.specs.CommandLine.{IsHelpOrVersion, HasRequest}
use Rattle.tmem.specs.Commands.{MayBeRead}
use Rattle.tmem.specs.Outcomes.{FailsWith}

-- the same of words that ask for the same
pub FailsWith-along : (status : ℕ) (left p q d e : Option (List ℕ)) (device : Option Played) → p ≡ q → d ≡ e → FailsWith status (MayBeRead p left) d device → FailsWith status (MayBeRead q left) e device
FailsWith-along status left p q d e device path disk so =
    subst (λ (x : Option (List ℕ)). FailsWith status (MayBeRead q left) x device) disk (subst (λ (x : Option (List ℕ)). FailsWith status (MayBeRead x left) d device) path so)

-- what holds after Err holds where the status is another than 0
pub of_status : {T P : Type 0} (n : ℕ) (r : Result T ProgramFailure) → 1 ≤ n → MatchResult r (λ _. n ≡ 0) (λ f. n ≡ status_of f) → OnErr r P → P
of_status n (Ok x) some is so = absurd (omega (arith, some, is))
of_status n (Err f) some is so = so

-- a text is there where its bytes are
pub is_there : (path : Option (Bor (List ℕ))) (bytes : Option (List ℕ)) → option_map (λ (t : Bor (List ℕ)). t.now) path ≡ bytes → IsSome bytes → IsSome path
is_there None bytes is some = subst IsSome (sym is) some
is_there (Some path) bytes is some = refl

-- a status other than 0 is that of a failure
pub of_failure : {T : Type 0} (Q : ProgramFailure → Type 0) (n : ℕ) (r : Result T ProgramFailure) (k : ℕ) → (0 ≡ k → ⊥) → MatchResult r (λ _. n ≡ 0) (λ f. n ≡ status_of f) → IfErr r Q → n ≡ k → (f : ProgramFailure) × (status_of f ≡ k) × Q f
of_failure Q n (Ok x) k some is err so = absurd (some (sym is ∙ so))
of_failure Q n (Err f) k some is err so = (f, sym is ∙ so, err)

-- a request among these kinds
among : (k : ErrorKind) (kinds : Kinds) → IsAmong k kinds → IsHelpOrVersion k → HasRequest kinds
among k [] is request = absurd is
among k (x ∷ xs) is request = elim is [
  | inl same ↦ inl (subst IsHelpOrVersion same request)
  | inr rest ↦ inr (among k xs rest request)
]

-- a refusal that is a request is among them
pub request_among : (kinds : Kinds) (e : Error) → HasKind kinds e → IsHelpOrVersion (kind_of e) → HasRequest kinds
request_among kinds e has request = elim has [
  | inl memory ↦ absurd (subst IsHelpOrVersion memory request)
  | inr is ↦ among (kind_of e) kinds is request
]

-- and where none of them is, a refusal is no request
pub no_request : (kinds : Kinds) (e : Error) → HasKind kinds e → kinds ≡ [] → ¬ IsHelpOrVersion (kind_of e)
no_request kinds e has none request = subst HasRequest none (request_among kinds e has request)
