use Rattle.std.proofs.Common.{refl, sym}
use Rattle.tmem_requests.proofs.Wrongs.{no_ask_key}
use Rattle.tmem_requests.proofs.explain.known_key.Goals as goal

pub returns-in_default-clause-none : goal.returns-in_default-clause-none
returns-in_default-clause-none c = λ none.
    let d = c.in_default in
    no_ask_key c.args.key.now d.not-do d.not-try d.not-get d.not-settle d.not-changed d.not-cancel d.not-keep d.not-run d.not-ask

pub returns-in-do-clause-same : goal.returns-in-do-clause-same
returns-in-do-clause-same c = sym c.in-do.is

pub returns-in-do-clause-known : goal.returns-in-do-clause-known
returns-in-do-clause-known c = refl

pub returns-in-try-clause-same : goal.returns-in-try-clause-same
returns-in-try-clause-same c = sym c.in-try.is

pub returns-in-try-clause-known : goal.returns-in-try-clause-known
returns-in-try-clause-known c = refl

pub returns-in-get-clause-same : goal.returns-in-get-clause-same
returns-in-get-clause-same c = sym c.in-get.is

pub returns-in-get-clause-known : goal.returns-in-get-clause-known
returns-in-get-clause-known c = refl

pub returns-in-settle-clause-same : goal.returns-in-settle-clause-same
returns-in-settle-clause-same c = sym c.in-settle.is

pub returns-in-settle-clause-known : goal.returns-in-settle-clause-known
returns-in-settle-clause-known c = refl

pub returns-in-changed-clause-same : goal.returns-in-changed-clause-same
returns-in-changed-clause-same c = sym c.in-changed.is

pub returns-in-changed-clause-known : goal.returns-in-changed-clause-known
returns-in-changed-clause-known c = refl

pub returns-in-cancel-clause-same : goal.returns-in-cancel-clause-same
returns-in-cancel-clause-same c = sym c.in-cancel.is

pub returns-in-cancel-clause-known : goal.returns-in-cancel-clause-known
returns-in-cancel-clause-known c = refl

pub returns-in-keep-clause-same : goal.returns-in-keep-clause-same
returns-in-keep-clause-same c = sym c.in-keep.is

pub returns-in-keep-clause-known : goal.returns-in-keep-clause-known
returns-in-keep-clause-known c = refl

pub returns-in-run-clause-same : goal.returns-in-run-clause-same
returns-in-run-clause-same c = sym c.in-run.is

pub returns-in-run-clause-known : goal.returns-in-run-clause-known
returns-in-run-clause-known c = refl

pub returns-in-ask-clause-same : goal.returns-in-ask-clause-same
returns-in-ask-clause-same c = sym c.in-ask.is

pub returns-in-ask-clause-known : goal.returns-in-ask-clause-known
returns-in-ask-clause-known c = refl
