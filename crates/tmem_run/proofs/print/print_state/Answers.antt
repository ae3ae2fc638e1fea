use Rattle.std.proofs.lemmas.Result.{err_from_is_err_and, on_ok_weaker}
use Rattle.tmem_world.specs.Represents.{HasCore}
use Rattle.tmem_run.proofs.Showing.{refusal_written, state_written}
use Rattle.tmem_run.proofs.print.print_state.Goals as goal

pub returns-then-not-has_core : goal.returns-then-not-has_core
returns-then-not-has_core g c =
    let gone : HasCore c.args.world.now → ⊥ = λ stands. cc (c.if-not-has_core.true, c.has_core.ensures.held.1 stands) in
    record {
      shown = on_ok_weaker c.print_line.result
          (λ told program m at. refusal_written program c.args.world.now m at c.args.vars _ _ gone told)
          c.print_line.ensures.line;
      failed = c.print_line.ensures.failed;
    }

pub returns : goal.returns
returns g c =
    let stands : HasCore c.args.world.now = c.has_core.ensures.held.0 c.if-not-has_core.false in
    record {
      shown = on_ok_weaker c.print_line-2.result
          (λ last program m at. state_written program c.args.world.now m at c.args.vars _ _ _ _ _ _ c.count.result stands (c.count.ensures program m at) c.in_ok-print_text.ensures.text (c.in_ok-print_names.ensures.names program m at) c.in_ok-print_text-2.ensures.text (c.in_ok-print_values.ensures.values program m at) last)
          c.print_line-2.ensures.line;
      failed = c.print_line-2.ensures.failed;
    }

pub returns-in_err-print_text : goal.returns-in_err-print_text
returns-in_err-print_text g c =
    let p = err_from_is_err_and c.from_residual.result c.from_residual.ensures.1 in
    rw (p.1, p.2) record { shown = tt; failed = c.in_err-print_text.ensures.failed }

pub returns-in_err-print_names : goal.returns-in_err-print_names
returns-in_err-print_names g c =
    let p = err_from_is_err_and c.from_residual-in_err-print_names.result c.from_residual-in_err-print_names.ensures.1 in
    rw (p.1, p.2) record { shown = tt; failed = c.in_err-print_names.ensures.failed }

pub returns-in_err-print_text-2 : goal.returns-in_err-print_text-2
returns-in_err-print_text-2 g c =
    let p = err_from_is_err_and c.from_residual-in_err-print_text-2.result c.from_residual-in_err-print_text-2.ensures.1 in
    rw (p.1, p.2) record { shown = tt; failed = c.in_err-print_text-2.ensures.failed }

pub returns-in_err-print_values : goal.returns-in_err-print_values
returns-in_err-print_values g c =
    let p = err_from_is_err_and c.from_residual-in_err-print_values.result c.from_residual-in_err-print_values.ensures.1 in
    rw (p.1, p.2) record { shown = tt; failed = c.in_err-print_values.ensures.failed }
