use Rattle.std.proofs.Common.{ℕ, List, option_map, Bor, sym, subst, inr, arith}
use Rattle.std.proofs.lemmas.Result.{IfErr-weaker, err_from_is_err_and}
use Rattle.tmem_run.specs.Stored.{StopsWhere}
use Rattle.tmem.proofs.Commands.{PlaysWhere-keeps, hands_back, output_stops, stops_with_one}
use Rattle.tmem_run.proofs.Laws.{err_of, ok_of}
use Rattle.tmem.proofs.script.run_script.Goals as goal

pub returns-clause-played : goal.returns-clause-played
returns-clause-played g c =
    let script = c.in_ok-script.script in
    let read = c.in_ok-script.ensures.script in
    ok_of c.flush_output.result (
      read.0,
      read.1,
      record {
        vars = script.vars;
        slots = script.slots;
        entries = script.entries.items;
        script = read.2;
        layout = c.in_ok-play.ensures.fits;
        played = PlaysWhere-keeps _ _ script.vars script.slots script.entries.items _ _ _ c.in_ok-play.ensures.played c.flush_output.ensures.kept;
      },
    )

pub returns-clause-failed : goal.returns-clause-failed
returns-clause-failed g c =
    let script = c.in_ok-script.script in
    let read = c.in_ok-script.ensures.script in
    let disk = option_map (λ (text : Bor (List ℕ)). text.now) c.args.paths.disk in
    IfErr-weaker c.flush_output.result _ _
    (λ f is. inr (
      read.0,
      read.1,
      (
        script.vars,
        script.slots,
        script.entries.items,
        read.2,
        inr (c.in_ok-play.ensures.fits, subst (λ x. StopsWhere disk c.play.new.device script.vars script.slots script.entries.items x) (sym is) (output_stops disk c.play.new.device script.vars script.slots script.entries.items _ _ c.in_ok-play.ensures.played)),
      ),
    ))
    c.flush_output.ensures.failed

pub returns-clause-withheld : goal.returns-clause-withheld
returns-clause-withheld g c = λ some.
    let script = c.in_ok-script.script in
    err_of _ c.flush_output.result (λ none. absurd (hands_back c.args.paths.disk c.play.new.device script.vars script.slots script.entries.items _ _ some c.in_ok-play.ensures.played none))

pub returns-in_err-play : goal.returns-in_err-play
returns-in_err-play g c =
    let script = c.in_ok-script.script in
    let read = c.in_ok-script.ensures.script in
    let disk = option_map (λ (text : Bor (List ℕ)). text.now) c.args.paths.disk in
    let returned = err_from_is_err_and c.from_residual-in_err-play.result c.from_residual-in_err-play.ensures.1 in
    record {
      played = rw returned.1 tt;
      failed = rw (returned.1, returned.2) (inr (read.0, read.1, (script.vars, script.slots, script.entries.items, read.2, c.in_err-play.ensures.failed)));
      unprinted = rw (returned.1, returned.2) (λ three. absurd (omega (arith, three, stops_with_one disk c.play.new.device script.vars script.slots script.entries.items _ c.in_err-play.ensures.failed)));
      withheld = λ some. rw returned.1 (c.in_err-play.ensures.withheld some);
      other_file = c.script_of.ensures.other_file;
    }
