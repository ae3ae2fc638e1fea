use Rattle.std.proofs.lemmas.Grind.{common_steps}
use Rattle.std.proofs.Common.{◌≡◌, ◌≤◌, ◌∙◌, ap, refl, false, Bool, get_or, None, Some, ℕ, List, [], map, string_bytes, Option, Result, Ok, Err, inl, inr, subst, sym, arith}
use Rattle.std.specs.Prelude.{◌⊎◌, IfErr, MatchResult, OnOk, codes}
use Rattle.clap.specs.Kinds.{HasKind}
use Rattle.tmem_args.specs.CommandLine.{IsAsked, IsFlagOf, IsTold, command_in, why_not_done}
use Rattle.tmem_args.specs.declared.args.Asked.TheVariants.{Run, Threads, Bench, Show, Init, Serve}
use Rattle.tmem_script.specs.Statuses.{status_of}
use Rattle.tmem_script.specs.declared.failure.ProgramFailure.{ProgramFailure}
use Rattle.tmem_script.specs.declared.failure.ProgramFailure.TheVariants as failure
use Rattle.tmem_script.specs.declared.script.ScriptError.TheVariants as error
use Rattle.tmem.specs.Commands.{CountsUp, IsWhyNotCounted, IsWhyNotShown, IsWhyNotTimed, MayBeRead, PlaysRead}
use Rattle.tmem_run.specs.declared.playing.Played.{Played}
use Rattle.tmem.proofs.Outcomes.{FailsWith-along, is_there, no_request, of_failure, of_status, request_among}
use Rattle.tmem.proofs.words.run_words.Goals as goal

pub returns-in-Run-clause-stopped : goal.returns-in-Run-clause-stopped
returns-in-Run-clause-stopped g c = λ one.
    let left = g.R.Read.remaining c.args.input.now in
    let same : c.as_slice.result.now ≡ c.args.words.items = c.as_slice.ensures.value in
    let none = subst (λ ws. why_not_done (map string_bytes ws) ≡ []) same c.in-Ok.ensures.refused in
    let told = subst (λ ws. IsTold (map string_bytes ws) c.in-Ok.told) same c.in-Ok.ensures.told in
    let asked : IsAsked (map string_bytes c.args.words.items) (Run c.in-Run.paths) = subst (λ a. IsAsked (map string_bytes c.args.words.items) a) c.in-Run.is told.asked in
    inr (inl ((none, asked.0), FailsWith-along 1 left _ _ _ _ _ asked.1 asked.2 (of_failure _ c.conclude.result c.run_script-outcome.result 1 (λ e. cc) c.conclude.ensures.status c.run_script-outcome.ensures.failed one)))

pub returns-in-Run-clause-no_script : goal.returns-in-Run-clause-no_script
returns-in-Run-clause-no_script g c = λ three.
    let left = g.R.Read.remaining c.args.input.now in
    let same : c.as_slice.result.now ≡ c.args.words.items = c.as_slice.ensures.value in
    let none = subst (λ ws. why_not_done (map string_bytes ws) ≡ []) same c.in-Ok.ensures.refused in
    let told = subst (λ ws. IsTold (map string_bytes ws) c.in-Ok.told) same c.in-Ok.ensures.told in
    let asked : IsAsked (map string_bytes c.args.words.items) (Run c.in-Run.paths) = subst (λ a. IsAsked (map string_bytes c.args.words.items) a) c.in-Run.is told.asked in
    inl ((none, asked.0), FailsWith-along 3 left _ _ _ _ _ asked.1 asked.2 (of_failure _ c.conclude.result c.run_script-outcome.result 3 (λ e. cc) c.conclude.ensures.status c.run_script-outcome.ensures.failed three))

pub returns-in-Err-clause-done : goal.returns-in-Err-clause-done
returns-in-Err-clause-done g c = λ none.
    let same : c.as_slice.result.now ≡ c.args.words.items = c.as_slice.ensures.value in
    let has = subst (λ ws. HasKind (why_not_done (map string_bytes ws)) c.in-Err.refusal) same c.in-Err.ensures.refused in
    inl (request_among (why_not_done (map string_bytes c.args.words.items)) c.in-Err.refusal has (c.answer.ensures.request (omega (arith, none))))

pub returns-in-Err-clause-stopped : goal.returns-in-Err-clause-stopped
returns-in-Err-clause-stopped g c = λ one.
    let same : c.as_slice.result.now ≡ c.args.words.items = c.as_slice.ensures.value in
    let has = subst (λ ws. HasKind (why_not_done (map string_bytes ws)) c.in-Err.refusal) same c.in-Err.ensures.refused in
    inl (request_among (why_not_done (map string_bytes c.args.words.items)) c.in-Err.refusal has (c.answer.ensures.request (omega (arith, one))))

pub returns-in-Err-clause-refused : goal.returns-in-Err-clause-refused
returns-in-Err-clause-refused g c = λ refused.
    let same : c.as_slice.result.now ≡ c.args.words.items = c.as_slice.ensures.value in
    let has = subst (λ ws. HasKind (why_not_done (map string_bytes ws)) c.in-Err.refusal) same c.in-Err.ensures.refused in
    c.answer.ensures.refused (λ request. refused.1 (request_among (why_not_done (map string_bytes c.args.words.items)) c.in-Err.refusal has request))

pub returns-in-Run-clause-withheld : goal.returns-in-Run-clause-withheld
returns-in-Run-clause-withheld g c = λ asks some failed none.
    let same : c.as_slice.result.now ≡ c.args.words.items = c.as_slice.ensures.value in
    let told = subst (λ ws. IsTold (map string_bytes ws) c.in-Ok.told) same c.in-Ok.ensures.told in
    let asked : IsAsked (map string_bytes c.args.words.items) (Run c.in-Run.paths) = subst (λ a. IsAsked (map string_bytes c.args.words.items) a) c.in-Run.is told.asked in
    of_status c.conclude.result c.run_script-outcome.result failed c.conclude.ensures.status (c.run_script-outcome.ensures.withheld (is_there c.in-Run.paths.disk _ asked.2 some)) none

pub returns-in-Err-clause-withheld : goal.returns-in-Err-clause-withheld
returns-in-Err-clause-withheld g c = λ asks some failed none.
    let same : c.as_slice.result.now ≡ c.args.words.items = c.as_slice.ensures.value in
    let has = subst (λ ws. HasKind (why_not_done (map string_bytes ws)) c.in-Err.refusal) same c.in-Err.ensures.refused in
    c.answer.ensures.unprinted (c.answer.ensures.refused (no_request (why_not_done (map string_bytes c.args.words.items)) c.in-Err.refusal has asks.0))

-- what holds after Ok holds where the status is 0
of_ok : {T E P : Type 0} (n : ℕ) (r : Result T E) → MatchResult r (λ _. n ≡ 0) (λ _. n ≡ 1) → OnOk r P → n ≡ 0 → P
of_ok n (Ok x) is so none = so
of_ok n (Err e) is so none = absurd (omega (arith, is, none))

-- no failure has status 0
never_zero : (f : ProgramFailure) → status_of f ≡ 0 → ⊥
never_zero (failure.Script (error.Memory e)) is = cc
never_zero (failure.Script error.Unreadable) is = cc
never_zero (failure.Script error.NoScript) is = cc
never_zero (failure.Refused fault) is = cc
never_zero failure.Output is = cc
never_zero failure.Clock is = cc
never_zero (failure.Words e) is = cc

of_done : {T P : Type 0} (n : ℕ) (r : Result T ProgramFailure) → MatchResult r (λ _. n ≡ 0) (λ f. n ≡ status_of f) → OnOk r P → n ≡ 0 → P
of_done n (Ok x) is so none = so
of_done n (Err f) is so none = absurd (never_zero f (sym is ∙ none))

PlaysRead-along : (left p q d e : Option (List ℕ)) (device : Option Played) (before after : Option (List ℕ)) → p ≡ q → d ≡ e → PlaysRead (MayBeRead p left) d device before after → PlaysRead (MayBeRead q left) e device before after
PlaysRead-along left p q d e device before after path disk so =
    subst (λ (x : Option (List ℕ)). PlaysRead (MayBeRead q left) x device before after) disk (subst (λ (x : Option (List ℕ)). PlaysRead (MayBeRead x left) d device before after) path so)

pub returns-in-Run-clause-done : goal.returns-in-Run-clause-done
returns-in-Run-clause-done g c = λ none.
    let left = g.R.Read.remaining c.args.input.now in
    let same : c.as_slice.result.now ≡ c.args.words.items = c.as_slice.ensures.value in
    let no_fault = subst (λ ws. why_not_done (map string_bytes ws) ≡ []) same c.in-Ok.ensures.refused in
    let told = subst (λ ws. IsTold (map string_bytes ws) c.in-Ok.told) same c.in-Ok.ensures.told in
    let asked : IsAsked (map string_bytes c.args.words.items) (Run c.in-Run.paths) = subst (λ a. IsAsked (map string_bytes c.args.words.items) a) c.in-Run.is told.asked in
    inr (inl ((no_fault, asked.0), PlaysRead-along left _ _ _ _ _ _ _ asked.1 asked.2 (of_done _ c.run_script-outcome.result c.conclude.ensures.status c.run_script-outcome.ensures.played none)))

pub returns-in-Err-clause-checked : goal.returns-in-Err-clause-checked
returns-in-Err-clause-checked g c = grind (arith, common_steps)

-- words name one command alone
not_both : {P : Type 0} (words : List (List ℕ)) (one two : List ℕ) → (get_or one 0 0 ≡ get_or two 0 0 → ⊥) → command_in words ≡ Some one → command_in words ≡ Some two → P
not_both words one two apart is other =
    let both : Some one ≡ Some two = sym is ∙ other in
    let same : one ≡ two = cc in
    absurd (apart (ap (λ (text : List ℕ). get_or text 0 0) same))

-- a flag that is not there, or is left out
not_given : (text : Option (List ℕ)) (flag : Bool) → IsFlagOf text flag → (text ≡ None) ⊎ (text ≡ Some (codes "false")) → flag ≡ false
not_given text flag is none = elim none [
  | inl none ↦ is.none none
  | inr left_out ↦ is.left_out left_out
]

-- what hinders counting and timing has status 1
status_counted : (f : ProgramFailure) → IsWhyNotCounted f → status_of f ≡ 1
status_counted f why = elim why [
  | inl output ↦ ap status_of output
  | inr refused ↦ ap status_of refused.1
]

status_timed : (f : ProgramFailure) → IsWhyNotTimed f → status_of f ≡ 1
status_timed f why = elim why [
  | inl clock ↦ ap status_of clock
  | inr counted ↦ status_counted f counted
]

-- a status that is 0 or 1
at_most_one : {T : Type 0} (Q : ProgramFailure → Type 0) (n : ℕ) (r : Result T ProgramFailure) → ((f : ProgramFailure) → Q f → status_of f ≡ 1) → MatchResult r (λ _. n ≡ 0) (λ f. n ≡ status_of f) → IfErr r Q → n ≤ 1
at_most_one Q n (Ok x) one is why = omega (arith, is)
at_most_one Q n (Err f) one is why = omega (arith, is, one f why)

-- the status of a store that was made or served, or not
at_most_one_of : {T E : Type 0} (n : ℕ) (r : Result T E) → MatchResult r (λ _. n ≡ 0) (λ _. n ≡ 1) → n ≤ 1
at_most_one_of n (Ok x) is = omega (arith, is)
at_most_one_of n (Err e) is = omega (arith, is)

pub returns-in-Threads : goal.returns-in-Threads
returns-in-Threads g c =
    let words = map string_bytes c.args.words.items in
    let same : c.as_slice.result.now ≡ c.args.words.items = c.as_slice.ensures.value in
    let no_fault = subst (λ ws. why_not_done (map string_bytes ws) ≡ []) same c.in-Ok.ensures.refused in
    let told = subst (λ ws. IsTold (map string_bytes ws) c.in-Ok.told) same c.in-Ok.ensures.told in
    let asked : IsAsked words (Threads c.in-Threads.counting) = subst (λ a. IsAsked words a) c.in-Threads.is told.asked in
    let most = at_most_one IsWhyNotCounted c.conclude-in-Threads.result c.count_in_threads-outcome.result status_counted c.conclude-in-Threads.ensures.status c.count_in_threads-outcome.ensures.failed in
    record {
      done = λ none. inr (inr (inl ((no_fault, asked.0), (record { workers = c.in-Threads.counting.workers; turns = c.in-Threads.counting.turns }, asked.1, subst (λ (disk : Option (List ℕ)). CountsUp (record { workers = c.in-Threads.counting.workers; turns = c.in-Threads.counting.turns }) disk (g.W.Write.contents c.args.out.now) (g.W.Write.contents c.count_in_threads-outcome.new.out)) asked.2 (of_done _ c.count_in_threads-outcome.result c.conclude-in-Threads.ensures.status c.count_in_threads-outcome.ensures.counted none)))));
      stopped = λ one. inr (inr (inl ((no_fault, asked.0), of_failure IsWhyNotCounted c.conclude-in-Threads.result c.count_in_threads-outcome.result 1 (λ e. cc) c.conclude-in-Threads.ensures.status c.count_in_threads-outcome.ensures.failed one)));
      no_script = λ three. absurd (omega (arith, most, three));
      refused = λ refused. absurd (refused.0 no_fault);
      most = omega (arith, most);
      untold = λ nothing none. of_done _ c.count_in_threads-outcome.result c.conclude-in-Threads.ensures.status (c.conclude-in-Threads.ensures.untold (not_given _ c.in-Ok.told.explains told.explains nothing)) none;
      unprinted = λ no two. absurd (omega (arith, most, two));
      checked = λ asks none. not_both words (codes "threads") (codes "check") (λ (same : 116 ≡ 99). omega (arith, same)) asked.0 asks.1;
      withheld = λ asks some failed none. absurd (asks.1.threads asked.0);
      unasked = λ plays serves. refl;
      unread = λ two. refl;
      other_file = λ plays some. refl;
    }

pub returns-in-Bench : goal.returns-in-Bench
returns-in-Bench g c =
    let words = map string_bytes c.args.words.items in
    let same : c.as_slice.result.now ≡ c.args.words.items = c.as_slice.ensures.value in
    let no_fault = subst (λ ws. why_not_done (map string_bytes ws) ≡ []) same c.in-Ok.ensures.refused in
    let told = subst (λ ws. IsTold (map string_bytes ws) c.in-Ok.told) same c.in-Ok.ensures.told in
    let asked : IsAsked words (Bench c.in-Bench.timing) = subst (λ a. IsAsked words a) c.in-Bench.is told.asked in
    let most = at_most_one IsWhyNotTimed c.conclude-in-Bench.result c.time_jobs-outcome.result status_timed c.conclude-in-Bench.ensures.status c.time_jobs-outcome.ensures.failed in
    record {
      done = λ none. inr (inr (inr (inl ((no_fault, asked.0), (c.in-Bench.timing.job, asked.1.line, of_done _ c.time_jobs-outcome.result c.conclude-in-Bench.ensures.status c.time_jobs-outcome.ensures.timed none)))));
      stopped = λ one. inr (inr (inr (inl ((no_fault, asked.0), of_failure IsWhyNotTimed c.conclude-in-Bench.result c.time_jobs-outcome.result 1 (λ e. cc) c.conclude-in-Bench.ensures.status c.time_jobs-outcome.ensures.failed one))));
      no_script = λ three. absurd (omega (arith, most, three));
      refused = λ refused. absurd (refused.0 no_fault);
      most = omega (arith, most);
      untold = λ nothing none. of_done _ c.time_jobs-outcome.result c.conclude-in-Bench.ensures.status (c.conclude-in-Bench.ensures.untold (not_given _ c.in-Ok.told.explains told.explains nothing)) none;
      unprinted = λ no two. absurd (omega (arith, most, two));
      checked = λ asks none. not_both words (codes "bench") (codes "check") (λ (same : 98 ≡ 99). omega (arith, same)) asked.0 asks.1;
      withheld = λ asks some failed none. absurd (asks.1.bench asked.0);
      unasked = λ plays serves. refl;
      unread = λ two. refl;
      other_file = λ plays some. refl;
    }

pub returns-in-Show : goal.returns-in-Show
returns-in-Show g c =
    let words = map string_bytes c.args.words.items in
    let same : c.as_slice.result.now ≡ c.args.words.items = c.as_slice.ensures.value in
    let no_fault = subst (λ ws. why_not_done (map string_bytes ws) ≡ []) same c.in-Ok.ensures.refused in
    let told = subst (λ ws. IsTold (map string_bytes ws) c.in-Ok.told) same c.in-Ok.ensures.told in
    let asked : IsAsked words (Show c.in-Show.showing) = subst (λ a. IsAsked words a) c.in-Show.is told.asked in
    let most = at_most_one IsWhyNotShown c.conclude-in-Show.result c.show_store-outcome.result status_counted c.conclude-in-Show.ensures.status c.show_store-outcome.ensures.failed in
    record {
      done = λ none. inr (inr (inr (inr (inl (inl (no_fault, asked.0))))));
      stopped = λ one. inr (inr (inr (inr (inl (inl (no_fault, asked.0))))));
      no_script = λ three. absurd (omega (arith, most, three));
      refused = λ refused. absurd (refused.0 no_fault);
      most = omega (arith, most);
      untold = λ nothing none. of_done _ c.show_store-outcome.result c.conclude-in-Show.ensures.status (c.conclude-in-Show.ensures.untold (not_given _ c.in-Ok.told.explains told.explains nothing)) none;
      unprinted = λ no two. absurd (omega (arith, most, two));
      checked = λ asks none. not_both words (codes "show") (codes "check") (λ (same : 115 ≡ 99). omega (arith, same)) asked.0 asks.1;
      withheld = λ asks some failed none. absurd (asks.1.show asked.0);
      unasked = λ plays serves. refl;
      unread = λ two. refl;
      other_file = λ plays some. refl;
    }

pub returns-in-Init : goal.returns-in-Init
returns-in-Init g c =
    let words = map string_bytes c.args.words.items in
    let same : c.as_slice.result.now ≡ c.args.words.items = c.as_slice.ensures.value in
    let no_fault = subst (λ ws. why_not_done (map string_bytes ws) ≡ []) same c.in-Ok.ensures.refused in
    let told = subst (λ ws. IsTold (map string_bytes ws) c.in-Ok.told) same c.in-Ok.ensures.told in
    let asked : IsAsked words (Init c.in-Init.making) = subst (λ a. IsAsked words a) c.in-Init.is told.asked in
    let most = at_most_one_of c.conclude_store.result c.init_store.result c.conclude_store.ensures.status in
    record {
      done = λ none. inr (inr (inr (inr (inl (inr (inl ((no_fault, asked.0), of_ok _ c.init_store.result c.conclude_store.ensures.status c.init_store.ensures none)))))));
      stopped = λ one. inr (inr (inr (inr (inl (inr (inl (no_fault, asked.0)))))));
      no_script = λ three. absurd (omega (arith, most, three));
      refused = λ refused. absurd (refused.0 no_fault);
      most = omega (arith, most);
      untold = λ nothing none. of_ok _ c.init_store.result c.conclude_store.ensures.status c.conclude_store.ensures.untold none;
      unprinted = λ no two. absurd (omega (arith, most, two));
      checked = λ asks none. not_both words (codes "init") (codes "check") (λ (same : 105 ≡ 99). omega (arith, same)) asked.0 asks.1;
      withheld = λ asks some failed none. absurd (asks.1.init asked.0);
      unasked = λ plays serves. refl;
      unread = λ two. refl;
      other_file = λ plays some. refl;
    }

pub returns-in-Serve : goal.returns-in-Serve
returns-in-Serve g c =
    let words = map string_bytes c.args.words.items in
    let same : c.as_slice.result.now ≡ c.args.words.items = c.as_slice.ensures.value in
    let no_fault = subst (λ ws. why_not_done (map string_bytes ws) ≡ []) same c.in-Ok.ensures.refused in
    let told = subst (λ ws. IsTold (map string_bytes ws) c.in-Ok.told) same c.in-Ok.ensures.told in
    let asked : IsAsked words (Serve c.in-Serve.serving) = subst (λ a. IsAsked words a) c.in-Serve.is told.asked in
    let most = at_most_one_of c.conclude_store-in-Serve.result c.serve-served.result c.conclude_store-in-Serve.ensures.status in
    record {
      done = λ none. inr (inr (inr (inr (inl (inr (inr ((no_fault, asked.0), of_ok _ c.serve-served.result c.conclude_store-in-Serve.ensures.status c.serve-served.ensures none)))))));
      stopped = λ one. inr (inr (inr (inr (inl (inr (inr (no_fault, asked.0)))))));
      no_script = λ three. absurd (omega (arith, most, three));
      refused = λ refused. absurd (refused.0 no_fault);
      most = omega (arith, most);
      untold = λ nothing none. of_ok _ c.serve-served.result c.conclude_store-in-Serve.ensures.status c.conclude_store-in-Serve.ensures.untold none;
      unprinted = λ no two. absurd (omega (arith, most, two));
      checked = λ asks none. not_both words (codes "serve") (codes "check") (λ (same : 115 ≡ 99). omega (arith, same)) asked.0 asks.1;
      withheld = λ asks some failed none. absurd (asks.1.serve asked.0);
      unasked = λ plays serves. absurd (serves (no_fault, asked.0));
      unread = λ two. absurd (omega (arith, most, two));
      other_file = λ plays some. absurd (plays.1.serve asked.0);
    }
